use Rattle.steps.proofs.SoundLemmas.{steps-sound}
use Rattle.steps.proofs.laws.steps_are_distinct.Goals as goal

pub returns : goal.returns
returns c = λ S at items steps are. (steps-sound S at items steps are).once
