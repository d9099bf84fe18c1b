use Rattle.verify.proofs.LawsHold.{runs_spell}
use Rattle.verify.proofs.laws.runs_spell.Goals as goal

pub returns : goal.returns
returns c = runs_spell
