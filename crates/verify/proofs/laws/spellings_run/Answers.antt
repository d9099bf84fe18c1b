use Rattle.verify.proofs.LawsHold.{spellings_run}
use Rattle.verify.proofs.laws.spellings_run.Goals as goal

pub returns : goal.returns
returns c = spellings_run
