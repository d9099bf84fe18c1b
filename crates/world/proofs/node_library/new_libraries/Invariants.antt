use Rattle.world.proofs.Words.{◌≡◌, replicate, new_node_library}
use Rattle.world.proofs.node_library.new_libraries.Given as goal

abbrev pub invariant-loop-node : goal.invariant-loop-node
invariant-loop-node l = l.libraries.items ≡ replicate l._node (new_node_library l.work_limit)
