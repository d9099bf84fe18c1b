use Rattle.proof_pages.proofs.Words.{◌≡◌, ◌++◌, take, flat_map, arrow_line}
use Rattle.proof_pages.proofs.graph.push_arrows.Given as goal

abbrev pub invariant-loop-taken : goal.invariant-loop-taken
invariant-loop-taken l = l.text.items ≡ l.initial.text.items ++ flat_map (arrow_line l.index) (take l.taken-index l.indexes)
