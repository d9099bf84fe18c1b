use Rattle.nodes.proofs.Words.{◌≡◌}
use Rattle.nodes.proofs.node_threads.Cluster.start_threads.Given as goal

abbrev pub invariant-loop-k : goal.invariant-loop-k
invariant-loop-k g l = l.self ≡ l.initial.self
