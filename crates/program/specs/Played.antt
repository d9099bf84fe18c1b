-- What the lines of `play` do with the world.
-- Source: this project's own form.
-- The code plays an event, or asks.
use Rattle.std.specs.Prelude.{◌≡◌, ℕ, Option, None, Some}
use Rattle.world.specs.Words.{Entry, Event}
use Rattle.net.specs.declared.event.Event.TheVariants.{Offer as OfferEvent, Begin as BeginEvent, Restart as RestartEvent}
use Rattle.world.specs.Carried.{value_event}
use Rattle.world.specs.WorldView.{WorldView, after_event}
use Rattle.commands.specs.declared.common_line.CommonLine.{CommonLine}
use Rattle.commands.specs.declared.common_line.CommonLine.TheVariants.{Offer, Begin, Restart, List as ListLine, Export, Log, State, Status, Why, Ask, Compare, Events}

-- the event that a line plays, if it plays one
abbrev pub event_of : CommonLine → Option (Event Entry)
event_of (Offer offered) = Some (OfferEvent offered.node offered.entry)
event_of (Begin k) = Some (BeginEvent k)
event_of (Restart k) = Some (RestartEvent k)
event_of (ListLine k) = None
event_of (Export k) = None
event_of (Log k) = None
event_of (State k) = None
event_of (Status id) = None
event_of (Why id) = None
event_of (Ask question) = None
event_of (Compare pair) = None
event_of Events = None

-- the event is played, if there is one, and nothing else changes
abbrev pub IsPlayed : Option (Event Entry) → WorldView → WorldView → Type 0
IsPlayed None old new = new ≡ old
IsPlayed (Some event) old new = new ≡ after_event old (value_event event)
