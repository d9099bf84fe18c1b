use Rattle.net.proofs.Words.{◌≡◌, take, new_parts}
use Rattle.net.specs.History.{kept_parts_of}
use Rattle.net.proofs.net.new_records.Given as goal

abbrev pub invariant-loop-node : goal.invariant-loop-node
invariant-loop-node g l = kept_parts_of l.records.items ≡ new_parts (take l._node l.fn.weights)
