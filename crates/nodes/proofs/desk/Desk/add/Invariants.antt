use Rattle.nodes.proofs.Words.{◌≡◌}
use Rattle.nodes.specs.Words.{IsPrefixOf}
use Rattle.nodes.proofs.desk.Desk.add.Given as goal

abbrev pub invariant-loop-attempt : goal.invariant-loop-attempt
invariant-loop-attempt g l = record {
  seen : IsPrefixOf l.initial.self.seen l.self.seen;
  nodes : l.self.node_count ≡ l.initial.self.node_count;
}
