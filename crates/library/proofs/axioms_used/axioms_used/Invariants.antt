use Rattle.library.proofs.CitationWalkLemmas.{IsWalked}
use Rattle.library.proofs.CitedByLemmas.{AreListed}
use Rattle.library.proofs.axioms_used.axioms_used.Given as goal

abbrev pub invariant-loop-position : goal.invariant-loop-position
invariant-loop-position l = IsWalked l.database l.at l.position l.marks.items

abbrev pub decreases-loop-position : goal.decreases-loop-position
decreases-loop-position l = l.position

abbrev pub invariant-loop-index : goal.invariant-loop-index
invariant-loop-index l = AreListed l.statements l.marked-items l.index l.labels.items
