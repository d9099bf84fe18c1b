use Rattle.event_lines.proofs.Words.{◌≡◌, ◌∙◌, ap, arith, map, Ok, take, length, take_all, play_line_of_event}
use Rattle.event_lines.proofs.EventsLemmas.{written_parses}
use Rattle.event_lines.proofs.events.event_lines.Goals as goal

pub returns-clause-parses : goal.returns-clause-parses
returns-clause-parses c =
    written_parses (take c.loop-event.event-index c.args.events.now) c.loop-event.text.items c.loop-event.invariant
    ∙ ap (λ es. Ok (map play_line_of_event es)) (take_all c.loop-event.event-index c.args.events.now (omega arith))
