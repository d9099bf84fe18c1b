-- The world, that is all nodes and packets, after a list of events: each event is a step of one
-- node, and packets stay.
-- Source: Lamport, Paxos Made Simple, sections 2.1 and 3 (messages may be lost, repeated and
-- delayed, agents restart).
-- The code stores the present nodes, the packets and the events that led there; the world here also
-- has every vote.
use Rattle.std.specs.Prelude.{◌≡◌, ℕ, suc, ◌+◌, ◌==◌, List, [], ◌∷◌, ◌++◌, map, Option, Some, None, MatchOption, Result, Ok, Err, slice_get, slice_set, if◌then◌else◌}
use Rattle.std.specs.Borrow.{Bor}
use Rattle.net.specs.Words.{Packet, Change, Round, Promise, Entry, Refusal, KeptPart, new_kept, Node, StepResult, restarted_node, log_of, offer_result, begin_result, on_packet, restarted, Event, Offer, Begin, Deliver, Restart, StepFault, Busy, LogFull, RoundsSpent, TooLong, Memory, NoNode, NoPacket, EventsSpent}
use Rattle.synod.specs.declared.refusal.Refusal.TheVariants.{Busy as NodeBusy, LogFull as NodeLogFull, RoundsSpent as NodeRoundsSpent, TooLong as NodeTooLong, Memory as NodeMemory}
use Rattle.net.specs.Chosen.{Vote, vote}

pub record World (V : Type 0) : Type 0 where
  pub weights : List ℕ
  pub nodes : List (Node V)
  pub packets : List (Packet V)  -- every packet ever posted, in the order of posting
  pub votes_cast : List (Vote V)  -- every vote ever cast, newest first
  pub event_count : ℕ  -- the number of events taken
  pub event_limit : ℕ  -- the number of events that the world takes

-- nodes with these kept parts, numbered from k, as a restart leaves them
abbrev pub nodes_with : {V : Type 0} → List ℕ → ℕ → List (KeptPart V) → List (Node V)
nodes_with weights k [] = []
nodes_with weights k (kept ∷ parts) = restarted_node k weights kept ∷ nodes_with weights (suc k) parts

-- the world of a process whose nodes begin with these kept parts, before any event, with a limit on
-- the number of events
abbrev pub resumed : {V : Type 0} → List ℕ → ℕ → List (KeptPart V) → World V
resumed weights limit parts = record { weights = weights; nodes = nodes_with weights 0 parts; packets = []; votes_cast = []; event_count = 0; event_limit = limit }

-- the kept parts of new nodes, one for each weight
abbrev pub new_parts : {V : Type 0} → List ℕ → List (KeptPart V)
new_parts weights = map (λ w. new_kept) weights

-- the world of new nodes before any event
abbrev pub start : {V : Type 0} → List ℕ → ℕ → World V
start weights limit = resumed weights limit (new_parts weights)

-- the refusal of a node, as the fault of the event
abbrev pub fault_of : Refusal → StepFault
fault_of NodeBusy = Busy
fault_of NodeLogFull = LogFull
fault_of NodeRoundsSpent = RoundsSpent
fault_of NodeTooLong = TooLong
fault_of NodeMemory = Memory

-- the votes cast once node k has made the change: an accepted entry is one more vote
abbrev pub votes_after : {V : Type 0} → ℕ → Option (Change V) → List (Vote V) → List (Vote V)
votes_after k None votes = votes
votes_after k (Some (Round r)) votes = votes
votes_after k (Some (Promise b)) votes = votes
votes_after k (Some (Entry s entry)) votes = vote k entry.ballot s entry.value ∷ votes

-- the world once node k has made the step, whose posts are appended to the packets
abbrev pub after_step : {V : Type 0} → World V → ℕ → StepResult V → World V
after_step w k step = record {
  weights = w.weights;
  nodes = slice_set w.nodes k step.node;
  packets = w.packets ++ step.posts;
  votes_cast = votes_after k step.change w.votes_cast;
  event_count = w.event_count + 1;
  event_limit = w.event_limit;
}

-- the world after a step of node k, or the refusal as a fault
abbrev pub after_step_or_fault : {V : Type 0} → World V → ℕ → Result (StepResult V) Refusal → Result (World V) StepFault
after_step_or_fault w k (Ok step) = Ok (after_step w k step)
after_step_or_fault w k (Err refusal) = Err (fault_of refusal)

-- the world after the step that node k makes, or a fault if there is no node k or it refuses
abbrev pub at_node : {V : Type 0} → World V → ℕ → (Node V → Result (StepResult V) Refusal) → Option (Node V) → Result (World V) StepFault
at_node w k take_step None = Err NoNode
at_node w k take_step (Some n) = after_step_or_fault w k (take_step n)

-- the world after the packet is delivered to its receiver, or NoPacket if there is none
abbrev pub delivered : {V : Type 0} → World V → Option (Packet V) → Result (World V) StepFault
delivered w None = Err NoPacket
delivered w (Some p) = at_node w p.to (λ n. Ok (on_packet n p)) (slice_get w.nodes p.to)

-- the world after the event, or the fault that it meets, without the limit on the number of events;
-- size gives the length of a value
abbrev pub event_result_without_limit : {V : Type 0} → (V → ℕ) → World V → Event V → Result (World V) StepFault
event_result_without_limit size w (Offer k v) = at_node w k (λ n. offer_result size n v) (slice_get w.nodes k)
event_result_without_limit size w (Begin k) = at_node w k begin_result (slice_get w.nodes k)
event_result_without_limit size w (Deliver number) = delivered w (slice_get w.packets number)
event_result_without_limit size w (Restart k) = at_node w k (λ n. Ok (restarted n)) (slice_get w.nodes k)

-- the world after the event, or the fault that the event meets
abbrev pub event_result : {V : Type 0} → (V → ℕ) → World V → Event V → Result (World V) StepFault
event_result size w e = if w.event_count == w.event_limit then Err EventsSpent else event_result_without_limit size w e

-- the world after these events in turn, or the first fault
abbrev pub events_result : {V : Type 0} → (V → ℕ) → List (Event V) → Result (World V) StepFault → Result (World V) StepFault
events_result size [] r = r
events_result size (e ∷ es) (Err fault) = Err fault
events_result size (e ∷ es) (Ok w) = events_result size es (event_result size w e)

-- the world of new nodes with these weights and this limit after these events, or the fault of the
-- first that is refused; size gives the length of a value
abbrev pub after : {V : Type 0} → (V → ℕ) → List ℕ → ℕ → List (Event V) → Result (World V) StepFault
after size weights limit events = events_result size events (Ok (start weights limit))

-- the log of the node; None in a log is a no-operation
abbrev pub log_at : {V : Type 0} → Option (Node V) → List (Option V)
log_at None = []
log_at (Some n) = log_of n

-- the log of node k: the values that it learned, up to its first gap
abbrev pub log : {V : Type 0} → World V → ℕ → List (Option V)
log w k = log_at (slice_get w.nodes k)

-- the log of node k, and the packets, after some events; empty if one of the events meets a fault
abbrev pub log_after : {V : Type 0} → Result (World V) StepFault → ℕ → List (Option V)
log_after (Ok w) k = log w k
log_after (Err fault) k = []

abbrev pub packets_after : {V : Type 0} → Result (World V) StepFault → List (Packet V)
packets_after (Ok w) = w.packets
packets_after (Err fault) = []

-- the entry at a slot of the log of node k after some events; None if the log is not that long, or
-- an event meets a fault
abbrev pub log_entry : {V : Type 0} → Result (World V) StepFault → ℕ → ℕ → Option (Option V)
log_entry r k slot = slice_get (log_after r k) slot

-- what was found is that entry
abbrev pub IsLogEntry : {V : Type 0} → Result (World V) StepFault → ℕ → ℕ → Option (Bor (Option V)) → Type 0
IsLogEntry r k slot found = MatchOption found (log_entry r k slot ≡ None) (λ entry. log_entry r k slot ≡ Some entry.now)

-- the values that the events offer
abbrev pub offers_of : {V : Type 0} → List (Event V) → List V
offers_of [] = []
offers_of (Offer k v ∷ es) = v ∷ offers_of es
offers_of (Begin k ∷ es) = offers_of es
offers_of (Deliver number ∷ es) = offers_of es
offers_of (Restart k ∷ es) = offers_of es
