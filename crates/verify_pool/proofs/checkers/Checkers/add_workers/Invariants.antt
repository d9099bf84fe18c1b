use Rattle.std.proofs.Common.{◌-◌, vec_len}
use Rattle.verify_pool.proofs.checkers.Checkers.add_workers.Given as goal

abbrev pub invariant-loop-checker : goal.invariant-loop-checker
invariant-loop-checker l = Unit {0}

abbrev pub decreases-loop-checker : goal.decreases-loop-checker
decreases-loop-checker l = l.count - vec_len l.self.workers
