use Rattle.proof_pages.proofs.Words.{◌≡◌, take, flat_map}
use Rattle.proof_pages.specs.Partitions.{chosen_essential}
use Rattle.proof_pages.proofs.partition.choose_essential.Given as goal

abbrev pub invariant-loop-position : goal.invariant-loop-position
invariant-loop-position l = l.list.items ≡ flat_map (chosen_essential l.statements l.wanted) (take l.position-index l.positions)
