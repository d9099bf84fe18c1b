use Rattle.rule_violation.proofs.Words.{◌≡◌, ◌+◌, ◌≤◌, false, drop, length, list_any, active_from, has_name_in, closed_blocks}
use Rattle.rule_violation.proofs.search.find_active.Given as goal

abbrev pub invariant-loop-i : goal.invariant-loop-i
invariant-loop-i l = record {
  none : list_any (λ p. has_name_in l.role l.name p.1) (active_from (l.i + 1) (drop l.i l.earlier)) ≡ false;
  closed_later : l.closed_later ≡ closed_blocks (drop l.i l.earlier);
  few : l.closed_later + l.i ≤ length l.earlier;
}
