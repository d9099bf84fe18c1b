use Rattle.net.proofs.ResumedLemmas.{histories_go_on, new_parts_are_left, runs_are_left}
use Rattle.net.proofs.laws.resume.Goals as goal

pub returns-clause-goes_on : goal.returns-clause-goes_on
returns-clause-goes_on g c = histories_go_on

pub returns-clause-new : goal.returns-clause-new
returns-clause-new g c = new_parts_are_left

pub returns-clause-left : goal.returns-clause-left
returns-clause-left g c = runs_are_left
