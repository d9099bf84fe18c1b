use Rattle.frame.proofs.Words.{arith, drop_all, drop_more}
use Rattle.frame.proofs.CollectLemmas.{left-none, left-step}
use Rattle.frame.proofs.mandatory.add_floats.Goals as goal

pub loop-code-init : goal.loop-code-init
loop-code-init c = record { there = λ p i. i; back = λ p i. i }

pub loop-code-preserved : goal.loop-code-preserved
loop-code-preserved c = left-step (λ x j. j) (λ x j. j) c.in_ok-add_float.ensures (rw (drop_more c.args.codes.now c.loop-code.code-index 0 (omega arith)) at c.loop-code.invariant)

pub returns : goal.returns
returns c = left-none (drop_all c.loop-code.code-index c.args.codes.now (omega arith)) c.loop-code.invariant
