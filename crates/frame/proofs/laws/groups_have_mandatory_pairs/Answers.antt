use Rattle.frame.proofs.GroupsLemmas.{groups-pairs}
use Rattle.frame.proofs.laws.groups_have_mandatory_pairs.Goals as goal

pub returns : goal.returns
returns c = groups-pairs
