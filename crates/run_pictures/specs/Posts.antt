-- The packets that shown steps post and deliver. A stump, the beginning of an arrow whose end is not
-- shown, stands for a packet that a shown step posts and no shown step delivers.
-- Source: this project's own form; arrows between lines of processes are Lamport's space-time
-- diagrams (Time, Clocks, and the Ordering of Events, 1978).
-- The code looks packets up in the world; here they are a list.
use Rattle.std.specs.Prelude.{ℕ, suc, zero, ◌+◌, ◌-◌, ◌==◌, Bool, false, not, ◌&&◌, List, [], ◌∷◌, ◌++◌, Option, Some, None, codes, decimal, flat_map, nat_lt, nat_le, slice_get, drop, take, if◌then◌else◌}
use Rattle.std.specs.List.{list_any, position_from}
use Rattle.synod.specs.declared.packet.Packet.{Packet}
use Rattle.world.specs.declared.carried.Carried.{Carried}
use Rattle.printed.specs.Printed.{packet_text}
use Rattle.run_pictures.specs.declared.step.Step.{Step}
use Rattle.run_pictures.specs.declared.step.Act.{Act}
use Rattle.run_pictures.specs.declared.step.Act.TheVariants.{Offer, Begin, Deliver, Restart, Apply}
use Rattle.run_pictures.specs.declared.stumps.Stump.{Stump}

-- packets by number, from 0
abbrev pub Packets : Type 0
Packets = List (Packet Carried)

-- the greatest number of steps that a picture shows
abbrev pub max_rows : ℕ
max_rows = 200

-- the shown steps: at most count of them, from an index on
abbrev pub shown_of : List Step → ℕ → ℕ → List Step
shown_of steps from count = take count (drop from steps)

-- the step posts packet n
abbrev pub posts : ℕ → Step → Bool
posts n s = nat_le s.first_post n && nat_lt n s.end_post

-- the row of the shown step that posts packet n, if there is one
abbrev pub row_of_post : ℕ → List Step → Option ℕ
row_of_post n shown = position_from (posts n) 0 shown

-- the act is the delivery of packet n
abbrev pub delivers_act : ℕ → Act → Bool
delivers_act n (Deliver number) = number == n
delivers_act n (Offer index) = false
delivers_act n Begin = false
delivers_act n Restart = false
delivers_act n (Apply slot verdict) = false

-- the step delivers packet n
abbrev pub delivers : ℕ → Step → Bool
delivers n s = delivers_act n s.act

-- packet n as a stump, if there is such a packet
abbrev pub stump_at : ℕ → Option (Packet Carried) → List Stump
stump_at n None = []
stump_at n (Some p) = record { packet = n; to = p.to } ∷ []

-- packet n as a stump, unless a shown step delivers it
abbrev pub stump : Packets → List Step → ℕ → List Stump
stump packets shown n = if list_any (delivers n) shown then [] else stump_at n (slice_get packets n)

-- the stumps of the packets from n on, as many as the last argument says
abbrev pub stumps_from : Packets → List Step → ℕ → ℕ → List Stump
stumps_from packets shown n zero = []
stumps_from packets shown n (suc count) = stump packets shown n ++ stumps_from packets shown (n + 1) count

-- the stumps of a step
abbrev pub stumps_of : Packets → List Step → Step → List Stump
stumps_of packets shown s = stumps_from packets shown s.first_post (s.end_post - s.first_post)

-- the second stump goes to the node of the first, and its packet was posted before
abbrev pub is_before : Stump → Stump → Bool
is_before s other = other.to == s.to && nat_lt other.packet s.packet

-- of the stumps that go to its node, this one is the first
abbrev pub is_first : List Stump → Stump → Bool
is_first stumps s = not (list_any (is_before s) stumps)

-- the printed form of a packet, or nothing if there is no such packet
abbrev pub packet_form : Option (Packet Carried) → List ℕ
packet_form None = []
packet_form (Some p) = packet_text p

-- a comma and the number of a stump that goes to a node
abbrev pub number_to : ℕ → Stump → List ℕ
number_to to s = if s.to == to then codes "," ++ decimal s.packet else []

-- the numbers of the stumps that go to a node, joined by commas
abbrev pub numbers_to : ℕ → List Stump → List ℕ
numbers_to to stumps = drop 1 (flat_map (number_to to) stumps)

-- a line feed and the printed form of the packet of a stump that goes to a node
abbrev pub title_to : Packets → ℕ → Stump → List ℕ
title_to packets to s = if s.to == to then codes "\n" ++ packet_form (slice_get packets s.packet) else []

-- the printed forms of the packets of the stumps that go to a node, a line each
abbrev pub titles_to : Packets → ℕ → List Stump → List ℕ
titles_to packets to stumps = drop 1 (flat_map (title_to packets to) stumps)
