-- The kept part of a node, which survives a restart, and the one change that an event makes to it.
-- Source: Lamport, Paxos Made Simple, section 2.5: an acceptor must remember in stable storage what
-- it promised and accepted.
-- The crate `switch` stores the change before it commits the event, so before anything is posted;
-- here both are in one step.
use Rattle.std.specs.Prelude.{◌≢◌, ℕ, List, [], ◌∷◌, Option, Some, None, Result, Ok, Err, slice_get}
use Rattle.net.specs.Words.{option_map, Packet, Change, Refusal, KeptPart, Node, StepResult, kept_of, offer_result, begin_result, on_packet, restarted, Event, Offer, Begin, Deliver, Restart, StepFault}
use Rattle.net.specs.World.{World, event_result}

-- promise, round and accepted entries of node k
abbrev pub kept_part : {V : Type 0} → World V → ℕ → Option (KeptPart V)
kept_part w k = option_map kept_of (slice_get w.nodes k)

-- the node at which an event happens; for a Deliver the receiver of the packet, or None if there is
-- no such packet
abbrev pub node_of_event : {V : Type 0} → List (Packet V) → Event V → Option ℕ
node_of_event packets (Offer k v) = Some k
node_of_event packets (Begin k) = Some k
node_of_event packets (Deliver number) = option_map (λ p. p.to) (slice_get packets number)
node_of_event packets (Restart k) = Some k

abbrev pub node_of : {V : Type 0} → World V → Event V → Option ℕ
node_of w e = node_of_event w.packets e

-- the change of a step; None if the step is refused
abbrev pub change_of_result : {V : Type 0} → Result (StepResult V) Refusal → Option (Change V)
change_of_result (Ok step) = step.change
change_of_result (Err refusal) = None

abbrev pub change_at : {V : Type 0} → (Node V → Result (StepResult V) Refusal) → Option (Node V) → Option (Change V)
change_at take_step None = None
change_at take_step (Some n) = change_of_result (take_step n)

abbrev pub change_delivered : {V : Type 0} → World V → Option (Packet V) → Option (Change V)
change_delivered w None = None
change_delivered w (Some p) = change_at (λ n. Ok (on_packet n p)) (slice_get w.nodes p.to)

-- the change that the step of the event makes to the kept part of its node
abbrev pub change_of : {V : Type 0} → (V → ℕ) → World V → Event V → Option (Change V)
change_of size w (Offer k v) = change_at (λ n. offer_result size n v) (slice_get w.nodes k)
change_of size w (Begin k) = change_at begin_result (slice_get w.nodes k)
change_of size w (Deliver number) = change_delivered w (slice_get w.packets number)
change_of size w (Restart k) = change_at (λ n. Ok (restarted n)) (slice_get w.nodes k)

-- none of the further events that are taken happens at node k
abbrev pub AreOfOthers : {V : Type 0} → (V → ℕ) → ℕ → Result (World V) StepFault → List (Event V) → Type 0
AreOfOthers size k r [] = Unit {0}
AreOfOthers size k (Err fault) (e ∷ es) = Unit {0}
AreOfOthers size k (Ok w) (e ∷ es) = (node_of w e ≢ Some k) × AreOfOthers size k (event_result size w e) es
