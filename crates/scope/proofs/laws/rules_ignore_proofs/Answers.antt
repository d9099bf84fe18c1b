use Rattle.scope.proofs.AcceptLemmas.{bare-rule}
use Rattle.scope.proofs.BareLemmas.{broken_rule-bares, end_rule-bares}
use Rattle.scope.proofs.laws.rules_ignore_proofs.Goals as goal

pub returns : goal.returns
returns c = record { before = broken_rule-bares; next = bare-rule; at_end = end_rule-bares }
