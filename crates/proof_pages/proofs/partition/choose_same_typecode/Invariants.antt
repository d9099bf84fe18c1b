use Rattle.proof_pages.proofs.Words.{◌≡◌, take, flat_map}
use Rattle.proof_pages.specs.Partitions.{chosen_typecode}
use Rattle.proof_pages.proofs.partition.choose_same_typecode.Given as goal

abbrev pub invariant-loop-position : goal.invariant-loop-position
invariant-loop-position l = l.list.items ≡ flat_map (chosen_typecode l.frames.names l.frames.statements l.typecode l.wanted) (take l.position-index l.positions)
