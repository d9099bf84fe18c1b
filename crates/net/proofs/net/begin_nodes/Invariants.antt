use Rattle.net.proofs.Words.{◌≡◌, nodes_of, nodes_with, parts_of}
use Rattle.net.specs.History.{kept_parts_of}
use Rattle.net.proofs.net.begin_nodes.Given as goal

-- the records so far are kept, and the nodes begin with them
abbrev pub invariant-loop-stored : goal.invariant-loop-stored
invariant-loop-stored g l = (parts_of l.begins.items ≡ kept_parts_of l.yielded) × (nodes_of l.nodes.items ≡ nodes_with l.weights 0 (kept_parts_of l.yielded))
