use Rattle.verify.proofs.Words.{on_ok_weaker, arith, refl}
use Rattle.verify.proofs.PlanLemmas.{hears-assertion}
use Rattle.verify.proofs.plan.TreePlanListener.assertion.Goals as goal

pub returns : goal.returns
returns c =
    on_ok_weaker c.add.result
    (hears-assertion c.args.self.now (record { nodes = c.args.self.now.nodes; stack = c.split_off.new.self; saved = c.args.self.now.saved }) _ c.args.position c.args.count _ c.in_ok-children.children
    c.saturating_sub-keep.result (omega (arith, c.saturating_sub-keep.ensures, c.len.ensures)) refl c.in_ok-children.ensures.items c.in_ok-children.ensures.tail refl)
    c.add.ensures
