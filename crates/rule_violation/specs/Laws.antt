-- The law of violations: what counts as a violation of a rule shows that the rule is broken.
-- Source: Metamath, 4.2; the rules are those of the crate `scope`.
use Rattle.std.specs.Prelude.{◌≡◌, false}
use Rattle.mm_read.specs.declared.stmt.Stmt.{Stmt}
use Rattle.mm_read.specs.Statements.{Database}
use Rattle.scope.specs.declared.rule.Rule.{Rule}
use Rattle.scope.specs.Legal.{keeps}
use Rattle.rule_violation.specs.declared.violation.RuleViolation.{RuleViolation}
use Rattle.rule_violation.specs.Violations.{IsViolation}

-- if a statement has a violation of a rule after S, it does not keep the rule
abbrev pub ViolationsBreakRules : Type 0
ViolationsBreakRules = (S : Database) (s : Stmt) (rule : Rule) (violation : RuleViolation) → IsViolation S s rule violation → keeps S s rule ≡ false
