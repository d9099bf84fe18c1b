use Rattle.std.proofs.Common.{arith, below_more}
use Rattle.proof_text.proofs.StepsLemmas.{steps-same}
use Rattle.proof_text.proofs.same_steps.have_same_steps.Goals as goal

pub loop-place-preserved : goal.loop-place-preserved
loop-place-preserved c = below_more _ _ c.loop-place.invariant (c.is_same_step.ensures c.if-not-is_same_step.false)

pub returns : goal.returns
returns c = λ same. steps-same c.args.left.now c.args.right.now (omega arith) (λ k less. c.loop-place.invariant k (let past = c.loop-place-test.false in omega arith))
