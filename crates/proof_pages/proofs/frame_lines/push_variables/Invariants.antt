use Rattle.proof_pages.proofs.BlockWords.{◌≡◌, ◌++◌, take, flat_map, symbol_text}
use Rattle.proof_pages.proofs.frame_lines.push_variables.Given as goal

abbrev pub invariant-loop-number : goal.invariant-loop-number
invariant-loop-number l = l.text.items ≡ l.initial.text.items ++ flat_map (symbol_text l.frames.names) (take l.number-index l.group)
