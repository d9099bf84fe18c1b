use Rattle.verify.proofs.LawsHold.{once}
use Rattle.verify.proofs.laws.spelled_once.Goals as goal

pub returns : goal.returns
returns c = once
