-- Packets: their receivers, and the limits that hold for every packet.
-- Source: Lamport, Paxos Made Simple, 2.2 (the messages of the two phases) and 2.3 (learning).
-- The code appends them to one list, one after another, as here.
use Rattle.std.specs.Prelude.{ℕ, suc, ◌<◌, ◌≤◌, ◌==◌, List, [], ◌∷◌, ◌++◌, Option, if◌then◌else◌}
use Rattle.synod.specs.Words.{AllByRecursion, SLOTS, MAX_PAGES, Ballot, SlotReport, Packet, Body, Prepare, Promise, Accept, Accepted, Nack, Ask, Told}

abbrev pub packet : {V : Type 0} → ℕ → ℕ → Body V → Packet V
packet from to body = record { from = from; to = to; body = body }

-- the packets to the nodes k, k + 1 and so on, as many as there are weights in the list
abbrev pub to_all_from : {V : Type 0} → ℕ → Body V → ℕ → List ℕ → List (Packet V)
to_all_from me body k [] = []
to_all_from me body k (w ∷ ws) = packet me k body ∷ to_all_from me body (suc k) ws

-- one packet to each node
abbrev pub to_all : {V : Type 0} → ℕ → List ℕ → Body V → List (Packet V)
to_all me weights body = to_all_from me body 0 weights

abbrev pub to_others_from : {V : Type 0} → ℕ → Body V → ℕ → List ℕ → List (Packet V)
to_others_from me body k [] = []
to_others_from me body k (w ∷ ws) =
    if k == me then to_others_from me body (suc k) ws else (packet me k body ∷ to_others_from me body (suc k) ws)

-- one packet to each node but the sender
abbrev pub to_others : {V : Type 0} → ℕ → List ℕ → Body V → List (Packet V)
to_others me weights body = to_others_from me body 0 weights

-- an Accept to all for each value, from slot s on
abbrev pub accept_posts : {V : Type 0} → ℕ → List ℕ → Ballot → ℕ → List (Option V) → List (Packet V)
accept_posts me weights ballot s [] = []
accept_posts me weights ballot s (v ∷ vs) = to_all me weights (Accept ballot s v) ++ accept_posts me weights ballot (suc s) vs

-- The limits of every packet: its sender is one of the nodes, each slot in it is below SLOTS, the
-- first slot of a Prepare is at most SLOTS, the number of a page is from 1 to the count of pages,
-- and this count is at most MAX_PAGES.
-- IsReport, IsPage, IsBody and IsPacket say that a report, a page, a body and a packet are within
-- these limits.

abbrev pub IsReport : {V : Type 0} → SlotReport V → Type 0
IsReport report = report.slot < SLOTS

pub record IsPage {V : Type 0} (page count : ℕ) (reports : List (SlotReport V)) : Type 0 where
  pub first : 1 ≤ page
  pub last : page ≤ count
  pub few : count ≤ MAX_PAGES
  pub each : AllByRecursion IsReport reports

abbrev pub IsBody : {V : Type 0} → Body V → Type 0
IsBody (Prepare ballot first) = first ≤ SLOTS
IsBody (Promise ballot page count reports) = IsPage page count reports
IsBody (Accept ballot s v) = s < SLOTS
IsBody (Accepted ballot s v) = s < SLOTS
IsBody (Nack ballot promise) = Unit {0}
IsBody (Ask s) = s < SLOTS
IsBody (Told s v) = s < SLOTS

-- the precondition on a packet that a node receives
pub record IsPacket {V : Type 0} (nodes : ℕ) (p : Packet V) : Type 0 where
  pub sender : p.from < nodes
  pub body : IsBody p.body

-- a packet that a node posts
pub record IsPost {V : Type 0} (nodes : ℕ) (p : Packet V) : Type 0 where
  pub packet : IsPacket nodes p
  pub receiver : p.to < nodes
