use Rattle.run_pictures.proofs.Words.{◌≡◌, take, flat_map, packets_of, title_to}
use Rattle.run_pictures.proofs.stumps.titles_to.Given as goal

abbrev pub invariant-loop-stump : goal.invariant-loop-stump
invariant-loop-stump l = l.titles.items ≡ flat_map (title_to (packets_of l.world) l.to) (take l.stump-index l.stumps)
