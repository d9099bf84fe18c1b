use Rattle.run_pictures.proofs.Words.{◌≡◌, ◌++◌, node_elements}
use Rattle.run_pictures.proofs.drawing.push_nodes.Given as goal

abbrev pub invariant-loop-node : goal.invariant-loop-node
invariant-loop-node l = l.svg.items ≡ l.initial.svg.items ++ node_elements l.bottom l.node
