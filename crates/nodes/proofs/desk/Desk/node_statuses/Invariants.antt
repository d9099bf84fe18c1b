use Rattle.nodes.proofs.Words.{◌≡◌, vec_len}
use Rattle.nodes.specs.Words.{IsPrefixOf}
use Rattle.nodes.specs.Questions.{AreNodeStatuses}
use Rattle.nodes.proofs.desk.Desk.node_statuses.Given as goal

-- the states are those of the nodes so far
abbrev pub invariant-loop-index : goal.invariant-loop-index
invariant-loop-index g l = record {
  seen : IsPrefixOf l.initial.self.seen l.self.seen;
  nodes : l.self.node_count ≡ l.initial.self.node_count;
  count : vec_len l.statuses ≡ l.index;
  statuses : AreNodeStatuses l.initial.self.seen l.self.seen 0 l.statuses.items;
}
