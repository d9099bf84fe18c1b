use Rattle.sites.proofs.ReferenceWords.{take, [], HasMore, HoldsForSome, lists_of, AddsAxiom}
use Rattle.sites.proofs.references.axioms_of_cited.Given as goal

abbrev pub invariant-loop-position : goal.invariant-loop-position
invariant-loop-position l = HasMore (HoldsForSome (AddsAxiom l.statements (lists_of l.axioms)) (take l.position-index l.cited)) [] l.collector
