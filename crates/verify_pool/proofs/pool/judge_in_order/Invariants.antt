use Rattle.verify_pool.proofs.Words.{◌≡◌, IsRightTo, metered_to}
use Rattle.verify_pool.proofs.pool.judge_in_order.Given as goal

abbrev pub invariant-loop-index : goal.invariant-loop-index
invariant-loop-index g l = record {
  right : IsRightTo (g.W.Work.right l.work) (g.W.Work.work l.work) l.index l.fn.meter;
  metered : l.meter ≡ metered_to (g.W.Work.work l.work) l.index l.fn.meter;
}
