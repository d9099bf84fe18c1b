use Rattle.rule_violation.proofs.Words.{◌≡◌, ◌+◌, ◌≤◌, drop, count, is_close}
use Rattle.rule_violation.proofs.by_rule.count_closing.Given as goal

abbrev pub invariant-loop-stmt : goal.invariant-loop-stmt
invariant-loop-stmt l = record {
  counted : l.closing + count is_close (drop l.stmt-index l.statements) ≡ count is_close l.statements;
  few : l.closing ≤ l.stmt-index;
}
