use Rattle.verify.proofs.Words.{on_ok_weaker}
use Rattle.verify.proofs.PlanLemmas.{hears-hypothesis}
use Rattle.verify.proofs.plan.TreePlanListener.hypothesis.Goals as goal

pub returns : goal.returns
returns c = on_ok_weaker c.add.result (hears-hypothesis _ _ c.args.position _) c.add.ensures
