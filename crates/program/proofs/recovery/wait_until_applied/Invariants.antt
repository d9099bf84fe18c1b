-- The desk has seen at least what it had seen, of as many nodes.
use Rattle.std.proofs.Common.{◌≡◌}
use Rattle.nodes.specs.Words.{IsPrefixOf}
use Rattle.program.proofs.recovery.wait_until_applied.Given as goal

abbrev pub invariant-loop-turn : goal.invariant-loop-turn
invariant-loop-turn g l = record {
  seen : IsPrefixOf l.initial.desk.seen l.desk.seen;
  nodes : l.desk.node_count ≡ l.initial.desk.node_count;
}
