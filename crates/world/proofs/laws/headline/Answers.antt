use Rattle.world.proofs.HeadlineLemmas.{headline_holds}
use Rattle.world.proofs.laws.headline.Goals as goal

pub returns : goal.returns
returns c = headline_holds
