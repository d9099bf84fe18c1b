use Rattle.run_pictures.proofs.Words.{◌≡◌, take, flat_map, number_to}
use Rattle.run_pictures.proofs.stumps.numbers_to.Given as goal

abbrev pub invariant-loop-stump : goal.invariant-loop-stump
invariant-loop-stump l = l.numbers.items ≡ flat_map (number_to l.to) (take l.stump-index l.stumps)
