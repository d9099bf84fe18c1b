use Rattle.scope.proofs.Words.{◌≡◌, length, are_numbers_distinct}
use Rattle.scope.proofs.legal.are_numbers_distinct.Given as goal

abbrev pub invariant-loop-left : goal.invariant-loop-left
invariant-loop-left l = are_numbers_distinct l.left ≡ are_numbers_distinct l.numbers

abbrev pub decreases-loop-left : goal.decreases-loop-left
decreases-loop-left l = length l.left
