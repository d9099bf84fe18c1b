use Rattle.std.proofs.Common.{IfSome}
use Rattle.read_pool.specs.Cut.{IsCut}
use Rattle.read_pool.proofs.cut.cut_near.Given as goal

abbrev pub invariant-loop-at : goal.invariant-loop-at
invariant-loop-at l = IfSome l.found (IsCut l.text)
