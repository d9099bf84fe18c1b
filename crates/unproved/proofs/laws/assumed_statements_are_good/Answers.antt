use Rattle.unproved.proofs.AssumedGoodLemmas.{assumed-good}
use Rattle.unproved.proofs.laws.assumed_statements_are_good.Goals as goal

pub returns : goal.returns
returns c = assumed-good
