-- The desk has seen at least what it had seen, of as many nodes.
use Rattle.std.proofs.Common.{◌≡◌}
use Rattle.nodes.specs.Words.{IsPrefixOf}
use Rattle.program.proofs.recovery.recover.Given as goal

abbrev pub invariant-loop-ballot : goal.invariant-loop-ballot
invariant-loop-ballot g l = record {
  seen : IsPrefixOf l.initial.desk.seen l.desk.seen;
  nodes : l.desk.node_count ≡ l.initial.desk.node_count;
}
