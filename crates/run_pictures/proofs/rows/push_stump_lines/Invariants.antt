use Rattle.run_pictures.proofs.Words.{◌≡◌, ◌++◌, take, flat_map, packets_of, stump_line}
use Rattle.run_pictures.proofs.rows.push_stump_lines.Given as goal

abbrev pub invariant-loop-stump : goal.invariant-loop-stump
invariant-loop-stump l =
    l.lines.items ≡ l.initial.lines.items ++ flat_map (stump_line (packets_of l.world) l.node l.row l.stumps) (take l.stump-index l.stumps)
