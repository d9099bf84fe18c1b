use Rattle.library.proofs.Words.{◌≡◌, drop, mark_items}
use Rattle.library.proofs.axioms_used.mark_cited.Given as goal

abbrev pub invariant-loop-number : goal.invariant-loop-number
invariant-loop-number l = mark_items l.label_positions.items (drop l.number-index l.number-items) l.marks ≡ mark_items l.label_positions.items l.number-items l.initial.marks
