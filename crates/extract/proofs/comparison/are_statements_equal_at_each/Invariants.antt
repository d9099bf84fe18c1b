use Rattle.std.proofs.Common.{◌≡◌, map, take}
use Rattle.scope.specs.Active.{stmt_at}
use Rattle.extract.proofs.comparison.are_statements_equal_at_each.Given as goal

abbrev pub invariant-loop-index : goal.invariant-loop-index
invariant-loop-index l = map (stmt_at l.whole) (take l.index l.whole_positions) ≡ map (stmt_at l.part) (take l.index l.part_positions)
