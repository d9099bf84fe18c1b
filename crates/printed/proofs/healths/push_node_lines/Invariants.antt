use Rattle.printed.proofs.Words.{◌≡◌, ◌++◌, drop}
use Rattle.printed.specs.Healths.{node_lines}
use Rattle.printed.proofs.healths.push_node_lines.Given as goal

abbrev pub invariant-loop-k : goal.invariant-loop-k
invariant-loop-k l = l.text.items ++ node_lines l.k l.stored (drop l.k l.nodes) ≡ l.initial.text.items ++ node_lines 0 l.stored l.nodes
