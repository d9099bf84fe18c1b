use Rattle.net.proofs.KeptPartLemmas.{kept_part_survives}
use Rattle.net.proofs.laws.kept_part.Goals as goal

pub returns : goal.returns
returns g c = kept_part_survives
