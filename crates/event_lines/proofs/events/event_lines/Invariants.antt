use Rattle.std.proofs.Common.{take}
use Rattle.event_lines.proofs.EventsLemmas.{AreWritten}
use Rattle.event_lines.proofs.events.event_lines.Given as goal

abbrev pub invariant-loop-event : goal.invariant-loop-event
invariant-loop-event l = AreWritten (take l.event-index l.events) l.text.items
