use Rattle.std.proofs.Common.{◌≡◌, map, take, get_or}
use Rattle.steps.proofs.essential.renumbered.Given as goal

abbrev pub invariant-loop-place : goal.invariant-loop-place
invariant-loop-place l = l.taken.items ≡ map (λ k. get_or l.numbers k 0) (take l.place-index l.list)
