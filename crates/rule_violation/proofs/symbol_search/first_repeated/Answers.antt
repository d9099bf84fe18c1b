use Rattle.rule_violation.proofs.Words.{◌∙◌, sym, ap, arith, ◌<◌, ◌++◌, length, name_at}
use Rattle.rule_violation.proofs.MarksLemmas.{again, none_again}
use Rattle.rule_violation.proofs.symbol_search.first_repeated.Goals as goal

pub returns-then-first-index : goal.returns-then-first-index
returns-then-first-index c =
    let X = c.loop-word.names in let code = c.in_ok-first.ensures in
    let low : c.in_ok-first.first < length X = omega (arith, c.if-first-index.true, c.len-index.ensures) in
    again X c.next.new.self c.args.words.now c.in-Some.word.now c.in_ok-first.first c.len-index.result
    (ap (λ r. X ++ r) (sym c.in-Some.ensures.steps) ∙ c.loop-word.invariant.split) c.len-index.ensures c.if-first-index.true
    (ap (λ ns. name_at ns c.in_ok-first.first) (sym (code.known low)) ∙ code.name.1)

pub returns : goal.returns
returns c = none_again c.loop-word.names c.loop-word.word-iterator c.args.words.now c.loop-word.invariant.split c.in-None.ensures.steps.0 c.loop-word.invariant.distinct
