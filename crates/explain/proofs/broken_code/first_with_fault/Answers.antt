use Rattle.explain.proofs.Words.{sym, ◌∙◌, has_fault}
use Rattle.explain.proofs.TokenLemmas.{passed-more}
use Rattle.explain.proofs.broken_code.first_with_fault.Goals as goal

pub loop-word-preserved : goal.loop-word-preserved
loop-word-preserved c =
    passed-more (has_fault c.args.mandatory.now c.args.fault) c.args.words.now c.loop-word.words c.loop-word.index c.loop-word.invariant c.in-Some.word.now c.next.new.self c.in-Some.ensures.steps
    (sym c.has_fault.ensures ∙ c.if-has_fault.false)
