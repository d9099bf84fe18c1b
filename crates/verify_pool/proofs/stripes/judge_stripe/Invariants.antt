use Rattle.verify_pool.proofs.Words.{◌≡◌, ◌+◌, ◌*◌, ◌-◌, length, AreFoundIn}
use Rattle.verify_pool.proofs.stripes.judge_stripe.Given as goal

abbrev pub invariant-loop-index : goal.invariant-loop-index
invariant-loop-index g l = record {
  place : l.index ≡ l.first + length l.worker.founds.items * l.step;
  found : AreFoundIn (g.W.Work.right l.work) (g.W.Work.work l.work) l.first l.step l.worker.founds.items;
}

abbrev pub decreases-loop-index : goal.decreases-loop-index
decreases-loop-index g l = l.count - l.index
