use Rattle.run_pictures.proofs.Words.{◌≡◌, ◌++◌, take, flat_map, stump_numbers}
use Rattle.run_pictures.proofs.rows.push_numbers.Given as goal

abbrev pub invariant-loop-stump : goal.invariant-loop-stump
invariant-loop-stump l =
    l.points.items ≡ l.initial.points.items ++ flat_map (stump_numbers l.node l.row l.stumps) (take l.stump-index l.stumps)
