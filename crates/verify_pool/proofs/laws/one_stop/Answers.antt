use Rattle.verify_pool.proofs.FirstStopLemmas.{one_stop}
use Rattle.verify_pool.proofs.laws.one_stop.Goals as goal

pub returns : goal.returns
returns g c = one_stop (g.W.Work.right c.args._work.now) (g.W.Work.work c.args._work.now) (g.W.Work.count c.args._work.now)
