use Rattle.sites.proofs.ReferenceWords.{◌≡◌, ◌++◌, take, filter_map, cited_position}
use Rattle.sites.proofs.citations.push_positions.Given as goal

abbrev pub invariant-loop-number : goal.invariant-loop-number
invariant-loop-number l = l.cited.items ≡ l.initial.cited.items ++ filter_map (cited_position l.positions) (take l.number-index l.numbers)
