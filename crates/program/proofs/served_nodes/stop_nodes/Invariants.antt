use Rattle.std.proofs.Common.{◌≡◌}
use Rattle.program.proofs.served_nodes.stop_nodes.Given as goal

abbrev pub invariant-loop-retry : goal.invariant-loop-retry
invariant-loop-retry g l = l.nodes.node_count ≡ l.initial.nodes.node_count
