use Rattle.steps.proofs.Words.{◌≡◌, map, marked_before, AreNumbers, kept_row}
use Rattle.steps.proofs.essential.keep_marked.Given as goal

-- the marked rows before this place are written, and their numbers recorded
abbrev pub invariant-loop-place : goal.invariant-loop-place
invariant-loop-place l =
    AreNumbers l.marks l.place l.numbers.items
    × (l.kept ≡ map (kept_row l.frames.statements l.table l.marks) (marked_before l.marks l.place))
