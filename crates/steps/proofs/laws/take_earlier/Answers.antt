use Rattle.steps.proofs.SoundLemmas.{steps-sound}
use Rattle.steps.proofs.laws.take_earlier.Goals as goal

pub returns : goal.returns
returns c = λ S at items steps are. (steps-sound S at items steps are).ordered
