use Rattle.std.proofs.Common.{map}
use Rattle.extract.specs.Walk.{IsWalked}
use Rattle.extract.proofs.comparison.walk_to_end.Given as goal

abbrev pub invariant-loop-index : goal.invariant-loop-index
invariant-loop-index l = IsWalked l.whole l.part (map (λ label. label.now) l.labels) l.index l.walk.found_count l.walk.whole_scope.statements l.walk.part_scope.statements
