use Rattle.rule_violation.proofs.Words.{◌≡◌, ◌+◌, ◌≤◌, drop, count, is_open}
use Rattle.rule_violation.proofs.by_rule.count_opening.Given as goal

abbrev pub invariant-loop-stmt : goal.invariant-loop-stmt
invariant-loop-stmt l = record {
  counted : l.opening + count is_open (drop l.stmt-index l.statements) ≡ count is_open l.statements;
  few : l.opening ≤ l.stmt-index;
}
