use Rattle.steps.proofs.Words.{◌≡◌, drop, mark_each}
use Rattle.steps.proofs.essential.mark_all.Given as goal

abbrev pub invariant-loop-place : goal.invariant-loop-place
invariant-loop-place l = mark_each (drop l.place-index l.list) l.marks ≡ mark_each l.list l.initial.marks
