use Rattle.scope.proofs.ActiveLemmas.{active_from-append}
use Rattle.scope.proofs.laws.active_after_statement.Goals as goal

pub returns : goal.returns
returns c = active_from-append 1
