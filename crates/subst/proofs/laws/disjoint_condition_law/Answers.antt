use Rattle.subst.proofs.DisjointLemmas.{disjoint_condition_law}
use Rattle.subst.proofs.laws.disjoint_condition_law.Goals as goal

pub returns : goal.returns
returns c = disjoint_condition_law
