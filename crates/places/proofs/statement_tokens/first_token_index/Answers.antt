use Rattle.places.proofs.Words.{◌<◌, ◌-◌, ◌∙◌, sym, ap, cond, arith, Span}
use Rattle.places.proofs.TokenSpanLemmas.{one_token}
use Rattle.places.proofs.statement_tokens.first_token_index.Goals as goal
use Rattle.places.proofs.statement_tokens.first_token_index.Goals.{then-ends_statement, else-ends_statement}

pub loop-i-preserved : goal.loop-i-preserved
loop-i-preserved c =
    let d : Span = record { start = 0; end = 0 } in
    let some : 0 < c.loop-i.left = omega arith in
    elim c.if-ends_statement.branch [
      | then-ends_statement w ↦ c.loop-i.invariant ∙ one_token c.args.text.now c.args.spans.now c.loop-i.i c.loop-i.left c.if-ends_statement.left d c.loop-i-test.true some
          (w.left-is ∙ sym (ap (λ b. cond b (c.loop-i.left - 1) c.loop-i.left) (sym c.ends_statement.ensures ∙ w.if-ends_statement.true)))
      | else-ends_statement w ↦ c.loop-i.invariant ∙ one_token c.args.text.now c.args.spans.now c.loop-i.i c.loop-i.left c.if-ends_statement.left d c.loop-i-test.true some
          (w.left-is ∙ sym (ap (λ b. cond b (c.loop-i.left - 1) c.loop-i.left) (sym c.ends_statement.ensures ∙ w.if-ends_statement.false)))
    ]
