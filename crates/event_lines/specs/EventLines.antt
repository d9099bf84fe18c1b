-- The lines of `play` for events.
-- Source: this project's own form.
-- The code appends the lines of all events to one buffer, and counts its line feeds afterwards.
use Rattle.std.specs.Prelude.{ℕ, ◌==◌, ◌^◌, ◌<◌, List, [], ◌∷◌, ◌++◌, codes, count_by, decimal, length, map, flat_map, if◌then◌else◌}
use Rattle.std.specs.List.{AllByRecursion, list_any}
use Rattle.library.specs.Charters.{AreNames}
use Rattle.library.specs.declared.entry.Entry.{Entry}
use Rattle.library.specs.declared.entry.Entry.TheVariants.{Text, Charter}
use Rattle.library.specs.declared.submission.Submission.{Submission}
use Rattle.net.specs.declared.event.Event.{Event}
use Rattle.net.specs.declared.event.Event.TheVariants.{Offer, Begin, Deliver, Restart}
use Rattle.world.specs.declared.carried.Carried.{Carried}
use Rattle.commands.specs.declared.script.TheConstants.{LINE_FEED}
use Rattle.commands.specs.declared.common_line.CommonLine.TheVariants.{Offer as OfferLine, Begin as BeginLine, Restart as RestartLine}
use Rattle.commands.specs.declared.play_line.PlayLine.{PlayLine}
use Rattle.commands.specs.declared.play_line.PlayLine.TheVariants.{Common, Deliver as DeliverLine}

-- a space and a word
abbrev pub spaced_word : List ℕ → List ℕ
spaced_word word = codes " " ++ word

-- the words, a space before each
abbrev pub spaced : List (List ℕ) → List ℕ
spaced words = flat_map spaced_word words

-- the line of a verb and a number
abbrev pub number_line : List ℕ → ℕ → List ℕ
number_line verb n = verb ++ spaced (decimal n ∷ []) ++ codes "\n"

-- a node, an author and a serial number
abbrev pub node_author_serial_words : ℕ → ℕ → ℕ → List (List ℕ)
node_author_serial_words node author serial = decimal node ∷ decimal author ∷ decimal serial ∷ []

-- the line `offer`, with the text on it
abbrev pub offer_line : ℕ → Submission → List ℕ
offer_line node s = codes "offer" ++ spaced (node_author_serial_words node s.author s.serial) ++ codes " " ++ s.text ++ codes "\n"

-- the line `offer-bytes`, which ends with the count of the bytes of the text
abbrev pub offer_bytes_line : ℕ → Submission → List ℕ
offer_bytes_line node s = codes "offer-bytes" ++ spaced (node_author_serial_words node s.author s.serial) ++ spaced (decimal (length s.text) ∷ []) ++ codes "\n"

-- the line `offer-bytes`, the bytes of the text, and a line feed
abbrev pub offer_bytes_lines : ℕ → Submission → List ℕ
offer_bytes_lines node s = offer_bytes_line node s ++ s.text ++ codes "\n"

-- the lines that offer a text: `offer-bytes` if it has a line feed, else `offer`
abbrev pub text_offer_lines : ℕ → Submission → List ℕ
text_offer_lines node s = if list_any (λ b. b == LINE_FEED) s.text then offer_bytes_lines node s else offer_line node s

-- the lines that offer an entry at a node
abbrev pub offer_lines : ℕ → Entry → List ℕ
offer_lines node (Text submission) = text_offer_lines node submission
offer_lines node (Charter author serial names) = codes "charter" ++ spaced (node_author_serial_words node author serial) ++ spaced (map decimal names) ++ codes "\n"

-- the lines of an event; `value.0` is the offered entry
abbrev pub lines_of_event : Event Carried → List ℕ
lines_of_event (Offer node value) = offer_lines node value.0
lines_of_event (Begin node) = number_line (codes "begin") node
lines_of_event (Deliver number) = number_line (codes "deliver") number
lines_of_event (Restart node) = number_line (codes "restart") node

-- the lines of all events, in order
abbrev pub lines_of_events : List (Event Carried) → List ℕ
lines_of_events events = flat_map lines_of_event events

-- the line `events N`, where N is the number of line feeds of the lines of the events, and these
-- lines
abbrev pub counted_event_lines : List (Event Carried) → List ℕ
counted_event_lines events =
    codes "events " ++ decimal (count_by (λ b. b == LINE_FEED) (lines_of_events events)) ++ codes "\n" ++ lines_of_events events

-- the line of `play` for an event
abbrev pub play_line_of_event : Event Carried → PlayLine
play_line_of_event (Offer node value) = Common (OfferLine (record { node = node; entry = value.0 }))
play_line_of_event (Begin node) = Common (BeginLine node)
play_line_of_event (Deliver number) = DeliverLine number
play_line_of_event (Restart node) = Common (RestartLine node)

-- the author, the serial number and the length of the text fit in 64 bits, as the types of the code
-- bound them
abbrev pub TextIsInRange : Submission → Type 0
TextIsInRange s = (s.author < 2 ^ 64) × (s.serial < 2 ^ 64) × (length s.text < 2 ^ 64)

-- the numbers of the entry fit in 64 bits; the names of a charter are 1 to 64 authors, in rising
-- order
abbrev pub EntryIsInRange : Entry → Type 0
EntryIsInRange (Text submission) = TextIsInRange submission
EntryIsInRange (Charter author serial names) = (author < 2 ^ 64) × (serial < 2 ^ 64) × AreNames names × AllByRecursion (λ n. n < 2 ^ 64) names

-- the number of the node fits in 8 bits, that of the packet in 64 bits, and the entry is in range
abbrev pub EventIsInRange : Event Carried → Type 0
EventIsInRange (Offer node value) = (node < 256) × EntryIsInRange value.0
EventIsInRange (Begin node) = node < 256
EventIsInRange (Deliver number) = number < 2 ^ 64
EventIsInRange (Restart node) = node < 256
