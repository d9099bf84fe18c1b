-- The words of a picture, before markup in them is escaped.
-- Source: this project's own form.
-- The code appends each part to a label.
use Rattle.std.specs.Prelude.{ℕ, ◌+◌, ◌-◌, ◌==◌, nat_lt, nat_le, Bool, ◌&&◌, ◌||◌, List, [], ◌∷◌, ◌++◌, Option, Some, None, codes, decimal, length, map, take, slice_get, if◌then◌else◌}
use Rattle.library.specs.declared.entry.Entry.{Entry}
use Rattle.library.specs.declared.entry.Entry.TheVariants.{Text, Charter}
use Rattle.net.specs.declared.event.Event.{Event}
use Rattle.net.specs.declared.event.Event.TheVariants.{Offer, Begin, Deliver, Restart}
use Rattle.world.specs.declared.carried.Carried.{Carried}
use Rattle.printed.specs.Printed.{verdict_text}
use Rattle.run_pictures.specs.declared.step.Act.{Act}
use Rattle.run_pictures.specs.declared.step.Act.TheVariants.{Offer as Offering, Begin as Beginning, Deliver as Delivering, Restart as Restarting, Apply as Applying}
use Rattle.run_pictures.specs.declared.step.Step.{Step}
use Rattle.run_pictures.specs.Posts.{Packets, packet_form}

-- a byte as a label shows it: `?` (63) if it is not printable ASCII
abbrev pub printable : ℕ → ℕ
printable b = if nat_le 32 b && nat_le b 126 then b else 63

-- the first bytes of a text, at most `count`, and ` ..` if there are more
unfoldable pub start_up_to : ℕ → List ℕ → List ℕ
start_up_to count bytes = map printable (take count bytes) ++ (if nat_lt count (length bytes) then codes " .." else [])

-- the first 48 bytes of a text, and ` ..` if there are more
abbrev pub start_of : List ℕ → List ℕ
start_of bytes = start_up_to 48 bytes

-- the offer of an entry: its author and serial number, and the start of its text
abbrev pub entry_label : Entry → List ℕ
entry_label (Text s) = codes "offer " ++ decimal s.author ++ codes "/" ++ decimal s.serial ++ codes " " ++ start_of s.text
entry_label (Charter author serial names) = codes "charter " ++ decimal author ++ codes "/" ++ decimal serial

-- the offer of an event of the history; only offers are asked for
abbrev pub offer_label : Option (Event Carried) → List ℕ
offer_label None = codes "offer"
offer_label (Some (Offer k value)) = entry_label value.0
offer_label (Some (Begin k)) = codes "offer"
offer_label (Some (Deliver number)) = codes "offer"
offer_label (Some (Restart k)) = codes "offer"

-- the label of a step with this act, after these events
abbrev pub act_label : List (Event Carried) → Act → List ℕ
act_label events (Offering index) = offer_label (slice_get events index)
act_label events Beginning = codes "begin"
act_label events (Delivering number) = codes "deliver " ++ decimal number
act_label events Restarting = codes "restart"
act_label events (Applying slot verdict) = codes "apply slot " ++ decimal slot ++ codes ": " ++ verdict_text verdict

-- the start of the printed form of the packet that an act delivers; nothing if it delivers none
abbrev pub packet_label : Packets → Act → List ℕ
packet_label packets (Delivering number) = start_of (packet_form (slice_get packets number))
packet_label packets (Offering index) = []
packet_label packets Beginning = []
packet_label packets Restarting = []
packet_label packets (Applying slot verdict) = []

-- the slots from first to last
abbrev pub slots_label : ℕ → ℕ → List ℕ
slots_label first last = codes "learned " ++ decimal first ++ (if nat_lt first last then codes " to " ++ decimal last else [])

-- the slots by which the log of its node grew in a step; nothing if there are none
abbrev pub learned_label : Step → List ℕ
learned_label s = if nat_lt s.log_len_before s.log_len_after then slots_label s.log_len_before (s.log_len_after - 1) else []

-- where the first numbers of some that are joined by commas end: before `..` at most 8 bytes stand
-- there, but at least one number and not the last; the first argument is the end found so far, the
-- second how many bytes were read
abbrev pub end_of_numbers : ℕ → ℕ → List ℕ → ℕ
end_of_numbers len read [] = len
end_of_numbers len read (b ∷ bs) = end_of_numbers (if b == 44 && (len == 0 || nat_le (read + 2) 8) then read else len) (read + 1) bs

-- numbers that are joined by commas, if these are at most 8 bytes, else the first ones and `..`
abbrev pub short_numbers : List ℕ → List ℕ
short_numbers numbers = if nat_le (length numbers) 8 then numbers else take (end_of_numbers 0 0 numbers) numbers ++ codes ".."
