use Rattle.frame.proofs.Words.{◌≡◌, ◌+◌, length}
use Rattle.std.specs.List.{sum_by}
use Rattle.frame.proofs.sizes.row.Given as goal

abbrev pub invariant-loop-list : goal.invariant-loop-list
invariant-loop-list l = l.row + sum_by length l.disjoints ≡ sum_by length l.initial.disjoints

abbrev pub decreases-loop-list : goal.decreases-loop-list
decreases-loop-list l = length l.disjoints
