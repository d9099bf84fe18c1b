use Rattle.places.proofs.Words.{◌≡◌, ◌∙◌, ◌+◌, sym, ap, subst, get_or, [], List, ℕ, rules, Span, Name, words, ends_statement, BeginsStatement}
use Rattle.places.proofs.BeginLemmas.{statement_here, statement_on, word_is}
use Rattle.places.proofs.statement_tokens.statement_start_index.Goals as goal
use Rattle.places.proofs.statement_tokens.statement_start_index.Goals.{then-ends_statement, else-ends_statement}

pub loop-i-init : goal.loop-i-init
loop-i-init c = search rules

pub loop-i-preserved : goal.loop-i-preserved
loop-i-preserved c =
    let d : Span = record { start = 0; end = 0 } in
    let tokens : List Name = words c.args.text.now c.args.spans.now in
    let is = word_is c.args.text.now c.args.spans.now c.args.token_index c.loop-i.i d c.loop-i-test.true in
    let ends_is : ends_statement (get_or tokens c.loop-i.i []) ≡ c.ends_statement.result = ap ends_statement is ∙ sym c.ends_statement.ensures in
    let P : ℕ → Type 0 = λ start. BeginsStatement tokens (c.loop-i.i + 1) start in
    elim c.if-ends_statement.branch [
      | then-ends_statement w ↦ subst P (sym w.start-is) (statement_here tokens c.loop-i.i (ends_is ∙ w.if-ends_statement.true))
      | else-ends_statement w ↦ subst P (sym w.start-is) (statement_on tokens c.loop-i.i c.loop-i.start c.loop-i.invariant (ends_is ∙ w.if-ends_statement.false))
    ]
