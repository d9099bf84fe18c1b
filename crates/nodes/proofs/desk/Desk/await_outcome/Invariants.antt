use Rattle.nodes.proofs.Words.{◌≡◌}
use Rattle.nodes.specs.Words.{IsPrefixOf}
use Rattle.nodes.proofs.desk.Desk.await_outcome.Given as goal

abbrev pub invariant-loop-yielded : goal.invariant-loop-yielded
invariant-loop-yielded g l = record {
  seen : IsPrefixOf l.initial.self.seen l.self.seen;
  nodes : l.self.node_count ≡ l.initial.self.node_count;
}
