-- A node for each number so far.
use Rattle.std.proofs.Common.{◌≡◌, vec_len}
use Rattle.program.proofs.memory_keeps.new_nodes.Given as goal

abbrev pub invariant-loop-node : goal.invariant-loop-node
invariant-loop-node g l = vec_len l.nodes ≡ l._node
