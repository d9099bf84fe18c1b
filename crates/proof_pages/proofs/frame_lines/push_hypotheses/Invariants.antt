use Rattle.proof_pages.proofs.BlockWords.{◌≡◌, ◌++◌, take, flat_map, line_at}
use Rattle.proof_pages.proofs.frame_lines.push_hypotheses.Given as goal

abbrev pub invariant-loop-position : goal.invariant-loop-position
invariant-loop-position l = l.text.items ≡ l.initial.text.items ++ flat_map (line_at l.statements) (take l.position-index l.positions)
