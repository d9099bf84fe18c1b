use Rattle.rule_violation.proofs.Words.{◌≡◌, ◌+◌, ◌≤◌, drop, length, list_any, active_from, marked, has_name_in, closed_blocks}
use Rattle.rule_violation.proofs.marks.mark_active.Given as goal

abbrev pub invariant-loop-i : goal.invariant-loop-i
invariant-loop-i l = record {
  marks : l.marks ≡ marked (λ x. list_any (λ p. has_name_in l.role x p.1) (active_from (l.i + 1) (drop l.i l.earlier))) l.mark l.names l.initial.marks;
  closed_later : l.closed_later ≡ closed_blocks (drop l.i l.earlier);
  few : l.closed_later + l.i ≤ length l.earlier;
}
