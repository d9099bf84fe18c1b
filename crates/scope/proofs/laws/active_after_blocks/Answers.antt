use Rattle.scope.proofs.ActiveLemmas.{active_from-later, means-stays_open}
use Rattle.scope.proofs.laws.active_after_blocks.Goals as goal

pub returns : goal.returns
returns c S T never = active_from-later 1 S T (means-stays_open 0 T never)
