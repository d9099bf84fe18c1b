-- The history of a net: its weights, its limit on events, the kept parts with which its nodes
-- began, and the events that it took. Its nodes and packets are those of the world after them.
-- Source: Lamport, Paxos Made Simple, section 3: the inputs of a state machine determine its run.
-- The code stores nodes and packets too; by the invariant of `Net` they are those of the world
-- after the events. It stores nothing of what the nodes began with, which contracts alone see.
use Rattle.std.specs.Prelude.{◌≡◌, ℕ, List, [], ◌∷◌, ◌++◌, Result, Ok, length, map}
use Rattle.net.specs.Words.{AllByRecursion, Packet, IsWeights, IsPost, KeptPart, RecordView, Node, Core, Event, StepFault}
use Rattle.net.specs.World.{World, resumed, new_parts, events_result}
use Rattle.net.specs.declared.ghost_value.GhostValue.{GhostValue}

pub record History (V : Type 0) : Type 0 where
  pub weights : List ℕ
  pub event_limit : ℕ  -- the number of events that the net takes
  pub begins : List (KeptPart V)  -- what the nodes began with
  pub events : List (Event V)

-- a history of new nodes
abbrev pub new_history : {V : Type 0} → List ℕ → ℕ → List (Event V) → History V
new_history weights limit events = record { weights = weights; event_limit = limit; begins = new_parts weights; events = events }

-- the nodes of the history began as new ones
abbrev pub BeginsNew : {V : Type 0} → History V → Type 0
BeginsNew history = history.begins ≡ new_parts history.weights

-- the kept parts of records
abbrev pub kept_parts_of : {V : Type 0} → List (RecordView V) → List (KeptPart V)
kept_parts_of records = map (λ r. r.kept) records

-- the kept parts of the records with which the nodes began
abbrev pub parts_of : {V : Type 0} → List (GhostValue (RecordView V)) → List (KeptPart V)
parts_of records = map (λ r. r.value.kept) records

-- the world before any event
abbrev pub first_world : {V : Type 0} → History V → World V
first_world history = resumed history.weights history.event_limit history.begins

-- the world after the events taken
abbrev pub world_of : {V : Type 0} → (V → ℕ) → History V → Result (World V) StepFault
world_of size history = events_result size history.events (Ok (first_world history))

-- the nodes, without their reserved capacity
abbrev pub nodes_of : {V : Type 0} → List (Core V) → List (Node V)
nodes_of [] = []
nodes_of (core ∷ cores) = core.node ∷ nodes_of cores

-- the nodes and the packets are those of the world after the events
pub record AreOfWorld {V : Type 0} (size : V → ℕ) (history : History V) (cores : List (Core V)) (packets : List (Packet V)) : Type 0 where
  pub world : World V
  pub is_after : world_of size history ≡ Ok world
  pub nodes : world.nodes ≡ nodes_of cores
  pub posted : world.packets ≡ packets
  pub weights : IsWeights history.weights
  pub count : length history.begins ≡ length history.weights
  pub posts : AllByRecursion (IsPost (length history.weights)) packets

-- the history with one more event
abbrev pub with_event : {V : Type 0} → History V → Event V → History V
with_event history e = record { weights = history.weights; event_limit = history.event_limit; begins = history.begins; events = history.events ++ e ∷ [] }
