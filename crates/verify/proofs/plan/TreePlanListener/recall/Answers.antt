use Rattle.verify.proofs.Words.{refl, arith}
use Rattle.verify.proofs.PlanLemmas.{hears-recall, hears-no-recall}
use Rattle.verify.proofs.plan.TreePlanListener.recall.Goals as goal

pub returns-in_ok-push : goal.returns-in_ok-push
returns-in_ok-push c =
    let k = c.index-number.result.now in
    hears-recall _ _ c.args.index k k (omega (arith, c.if-index-len.true, c.len.ensures)) c.index-number.ensures refl c.in_ok-push.ensures.items refl

pub returns-else-index-len : goal.returns-else-index-len
returns-else-index-len c = hears-no-recall _ _ c.args.index (omega (arith, c.if-index-len.false, c.len.ensures))
