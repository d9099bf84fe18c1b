use Rattle.scope.proofs.ActiveLemmas.{active_from-close}
use Rattle.scope.proofs.laws.active_after_close.Goals as goal

pub returns : goal.returns
returns c = active_from-close 1
