use Rattle.library.proofs.WorkLemmas.{works_add_up}
use Rattle.library.proofs.laws.works_add_up.Goals as goal

pub returns : goal.returns
returns c = works_add_up
