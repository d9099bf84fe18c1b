use Rattle.frame.proofs.PairLawLemmas.{lists-groups}
use Rattle.frame.proofs.laws.pair_lists_decide_as_groups.Goals as goal

pub returns : goal.returns
returns c = lists-groups
