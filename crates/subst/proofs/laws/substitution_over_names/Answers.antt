use Rattle.subst.proofs.SubstitutionLemmas.{substitution_over_names}
use Rattle.subst.proofs.laws.substitution_over_names.Goals as goal

pub returns : goal.returns
returns c = substitution_over_names
