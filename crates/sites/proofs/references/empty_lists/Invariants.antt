use Rattle.sites.proofs.ReferenceWords.{◌≡◌, [], replicate, lists_of}
use Rattle.sites.proofs.references.empty_lists.Given as goal

abbrev pub invariant-loop : goal.invariant-loop
invariant-loop l = lists_of l.lists.items ≡ replicate l.counter []
