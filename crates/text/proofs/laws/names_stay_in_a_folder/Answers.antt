use Rattle.text.proofs.ReadingLemmas.{names-stay}
use Rattle.text.proofs.laws.names_stay_in_a_folder.Goals as goal

pub returns : goal.returns
returns c = names-stay
