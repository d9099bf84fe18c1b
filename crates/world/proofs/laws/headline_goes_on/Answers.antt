use Rattle.world.proofs.HeadlineLemmas.{headlines_go_on}
use Rattle.world.proofs.laws.headline_goes_on.Goals as goal

pub returns : goal.returns
returns c = headlines_go_on
