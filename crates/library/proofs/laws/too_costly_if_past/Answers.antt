use Rattle.library.proofs.CausesLemmas.{past-judged, past-outcome}
use Rattle.library.proofs.laws.too_costly_if_past.Goals as goal

pub returns : goal.returns
returns c = λ limit L T charter submission outcome n known.
    (past-judged limit L charter submission T outcome n known, past-outcome limit L charter submission T outcome n known)
