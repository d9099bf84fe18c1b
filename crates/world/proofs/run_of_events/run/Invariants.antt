use Rattle.world.proofs.Words.{◌≡◌, IsOk, world_of, carried_size}
use Rattle.world.proofs.WorldViewLemmas.{run_world}
use Rattle.world.proofs.run_of_events.run.Given as goal

abbrev pub invariant-loop-event : goal.invariant-loop-event
invariant-loop-event l = record {
  can : (goal.iterator-loop-event).can_next l.event-iterator;
  finite : (goal.iterator-loop-event).is_finite l.event-iterator;
  -- the world is that of the events so far, with every library new
  world : l.world ≡ run_world l.fn.weights l.fn.event_limit l.fn.work_limit l.yielded;
  taken : IsOk (world_of carried_size l.world.history);
}
