use Rattle.steps.proofs.Words.{steps_of, AreMarkedFrom}
use Rattle.steps.proofs.essential.marks_of.Given as goal

-- the steps from this place on were visited
abbrev pub invariant-loop-place : goal.invariant-loop-place
invariant-loop-place l = AreMarkedFrom l.frames.statements (steps_of l.table) l.place l.marks.items
