use Rattle.rule_violation.proofs.Words.{◌≡◌, drop, list_any, marked, has_name_in}
use Rattle.rule_violation.proofs.marks.mark_earlier.Given as goal

abbrev pub invariant-loop-i : goal.invariant-loop-i
invariant-loop-i l =
    marked (λ x. list_any (has_name_in l.role x) (drop l.i l.earlier)) l.mark l.names l.marks ≡ marked (λ x. list_any (has_name_in l.role x) l.earlier) l.mark l.names l.initial.marks
