use Rattle.verify_pool.proofs.Words.{◌<◌, length, arith}
use Rattle.verify_pool.proofs.StripeLemmas.{found-at}
use Rattle.verify_pool.proofs.stripes.found_by.Goals as goal

pub returns-in-Some : goal.returns-in-Some
returns-in-Some g c =
    let some : 0 < length c.args.workers.now = omega arith in
    let read = c.in-Some.ensures.lookup in
    found-at (g.W.Work.right c.args._work.now) (g.W.Work.work c.args._work.now) c.args.workers.now c.index-workers-index.result c.args.index c.in-Some.found.now c.deref.result.now
    some c.requires c.deref.ensures.value read.3.0 read.1
