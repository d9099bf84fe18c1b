use Rattle.nodes.proofs.Words.{◌≡◌, ◌≤◌, sum, take, ForOk, carried_size, world_of, event_counts}
use Rattle.nodes.proofs.report.count_events.Given as goal

-- the counts are those of the events so far
abbrev pub invariant-loop-event : goal.invariant-loop-event
invariant-loop-event g l = record {
  total : l.events ≡ sum l.handled.items;
  counts : ForOk (world_of carried_size l.switch) (λ world. l.handled.items ≡ event_counts world 0 l.fn.node_count (take l.event-index l.history));
  few : l.events ≤ l.event-index;
}
