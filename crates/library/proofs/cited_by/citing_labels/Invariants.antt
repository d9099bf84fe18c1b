use Rattle.library.proofs.CitedByLemmas.{IsSearched}
use Rattle.library.proofs.cited_by.citing_labels.Given as goal

abbrev pub invariant-loop-index : goal.invariant-loop-index
invariant-loop-index l = IsSearched l.database l.all l.at l.index l.sought.items l.labels.items
