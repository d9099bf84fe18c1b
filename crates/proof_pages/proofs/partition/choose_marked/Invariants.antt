use Rattle.proof_pages.proofs.Words.{◌≡◌, take, flat_map}
use Rattle.proof_pages.specs.Partitions.{chosen_marked}
use Rattle.proof_pages.proofs.partition.choose_marked.Given as goal

abbrev pub invariant-loop-position : goal.invariant-loop-position
invariant-loop-position l = l.list.items ≡ flat_map (chosen_marked l.marks l.wanted) (take l.position-index l.positions)
