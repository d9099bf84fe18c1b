use Rattle.rule_violation.proofs.Words.{◌≡◌, ◌+◌, ◌≤◌, false, length, drop, list_any, active_from, is_open, closed_blocks}
use Rattle.rule_violation.proofs.by_rule.find_unclosed_block.Given as goal

abbrev pub invariant-loop-i : goal.invariant-loop-i
invariant-loop-i l = record {
  none : list_any (λ p. is_open p.1) (active_from (l.i + 1) (drop l.i l.statements)) ≡ false;
  closed_later : l.closed_later ≡ closed_blocks (drop l.i l.statements);
  few : l.closed_later + l.i ≤ length l.statements;
}
