use Rattle.sites.specs.PassState.{lists_of, AreListsOfFirst}
use Rattle.sites.proofs.references.cross_references.Given as goal

abbrev pub invariant-loop-index : goal.invariant-loop-index
invariant-loop-index l = AreListsOfFirst l.library.replica.statements l.index (lists_of l.axioms.items) (lists_of l.cited_by.items)
