use Rattle.scope.specs.Stored.Ordered.{DifferFromNext}
use Rattle.scope.proofs.legal.are_neighbours_distinct.Given as goal

abbrev pub invariant-loop-i : goal.invariant-loop-i
invariant-loop-i l = DifferFromNext l.words l.i
