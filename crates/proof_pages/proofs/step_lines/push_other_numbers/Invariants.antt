use Rattle.proof_pages.proofs.Words.{◌≡◌, ◌++◌, take, flat_map, comma_and_number}
use Rattle.proof_pages.proofs.step_lines.push_other_numbers.Given as goal

abbrev pub invariant-loop-index : goal.invariant-loop-index
invariant-loop-index l = l.text.items ≡ l.initial.text.items ++ flat_map comma_and_number (take l.index-index l.indexes)
