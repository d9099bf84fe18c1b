use Rattle.rule_violation.proofs.BreaksLemmas.{violation_breaks}
use Rattle.rule_violation.proofs.laws.violations_break_rules.Goals as goal

pub returns : goal.returns
returns c = violation_breaks
