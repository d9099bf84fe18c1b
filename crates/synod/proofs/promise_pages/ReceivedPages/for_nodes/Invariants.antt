use Rattle.synod.proofs.Words.{◌≡◌, take, no_pages, entries_of}
use Rattle.synod.proofs.promise_pages.ReceivedPages.for_nodes.Given as goal

abbrev pub invariant-loop-weight : goal.invariant-loop-weight
invariant-loop-weight g l = entries_of l.by_node.items ≡ no_pages (take l._weight-index l._weight-items)
