use Rattle.proof_pages.proofs.BlockWords.{◌≡◌, ◌++◌, take, flat_map, group_line_of_numbers}
use Rattle.proof_pages.proofs.frame_lines.push_groups.Given as goal

abbrev pub invariant-loop-index : goal.invariant-loop-index
invariant-loop-index l = l.text.items ≡ l.initial.text.items ++ flat_map (group_line_of_numbers l.frames.names) (take l.index l.groups)
