-- A staged event: all that its step needs is allocated, and nothing is changed yet.
-- Source: this project's choice, so that a change can be stored before its effects are visible.
-- The code holds the step that the node staged; for a restart, its posts and, once it is loaded,
-- the record.
use Rattle.std.specs.Prelude.{◌≡◌, ◌≤◌, ◌+◌, ℕ, List, [], ◌∷◌, ◌++◌, Option, Some, None, Result, Ok, Err, length, slice_get, slice_set}
use Rattle.net.specs.Words.{AllByRecursion, Packet, Ask, Change, Refusal, IsPost, to_others, KeptPart, RecordView, Node, StepResult, kept_of, Core, KeepsCapacity, ReadyView, offer_result, begin_result, on_packet, reloaded, restarted, Event, Offer, Begin, Deliver, Restart, StepFault, Memory}
use Rattle.net.specs.declared.staged.StagedWork.{StagedWork as RustWork}
use Rattle.net.specs.declared.staged.StagedWork.TheVariants.{Step, Restart as RestartWork}
use Rattle.net.specs.World.{World, fault_of, after_step_or_fault, event_result_without_limit}
use Rattle.net.specs.KeptPart.{node_of, change_of, change_of_result}
use Rattle.net.specs.History.{History, with_event}

-- the work of a node: a step, or a restart with its posts and the record that was loaded, if one
-- was
pub data StagedWork (V : Type 0) : Type 0 where
  steps : ReadyView V → StagedWork V
  restarts : List (Packet V) → Option (KeptPart V) → StagedWork V

pub record StagedEvent (V : Type 0) : Type 0 where
  pub at : ℕ  -- the node
  pub event : Event V
  pub work : StagedWork V

abbrev loaded_of : {V : Type 0} → Option (RecordView V) → Option (KeptPart V)
loaded_of None = None
loaded_of (Some r) = Some r.kept

abbrev pub work_of : {V : Type 0} → RustWork V → StagedWork V
work_of (Step ready) = steps ready
work_of (RestartWork posts loaded) = restarts posts.items (loaded_of loaded)

abbrev pub posts_of : {V : Type 0} → StagedWork V → List (Packet V)
posts_of (steps ready) = ready.step.posts
posts_of (restarts posts loaded) = posts

abbrev pub change_in : {V : Type 0} → StagedWork V → Option (Change V)
change_in (steps ready) = ready.step.change
change_in (restarts posts loaded) = None

-- the work with this record loaded, if it is a restart
abbrev pub with_loaded : {V : Type 0} → StagedWork V → KeptPart V → StagedWork V
with_loaded (steps ready) kept = steps ready
with_loaded (restarts posts loaded) kept = restarts posts (Some kept)

abbrev pub with_record : {V : Type 0} → StagedEvent V → KeptPart V → StagedEvent V
with_record staged kept = record { at = staged.at; event = staged.event; work = with_loaded staged.work kept }

-- the step that the work makes at a node in state n
abbrev pub step_of : {V : Type 0} → StagedWork V → Node V → StepResult V
step_of (steps ready) n = ready.step
step_of (restarts posts None) n = restarted n
step_of (restarts posts (Some kept)) n = reloaded n kept

-- the work can be committed: for a step, the node is as it was when it staged the step, with at
-- least that capacity; for a restart, the posts ask all other nodes, and a loaded record is the
-- kept part of the node
abbrev pub IsReadyAt : {V : Type 0} → Core V → StagedWork V → Type 0
IsReadyAt c (steps ready) = (c.node ≡ ready.before.node) × KeepsCapacity ready.before c
IsReadyAt c (restarts posts None) = posts ≡ to_others c.node.me c.node.weights (Ask 0)
IsReadyAt c (restarts posts (Some kept)) = (posts ≡ to_others c.node.me c.node.weights (Ask 0)) × (kept ≡ kept_of c.node)

-- the work is of the kind of the event: a restart without a record yet for a restart, a step for
-- every other event
abbrev pub IsOfEvent : {V : Type 0} → Event V → StagedWork V → Type 0
IsOfEvent (Offer k v) (steps ready) = Unit {0}
IsOfEvent (Begin k) (steps ready) = Unit {0}
IsOfEvent (Deliver number) (steps ready) = Unit {0}
IsOfEvent (Restart k) (steps ready) = ⊥
IsOfEvent (Offer k v) (restarts posts loaded) = ⊥
IsOfEvent (Begin k) (restarts posts loaded) = ⊥
IsOfEvent (Deliver number) (restarts posts loaded) = ⊥
IsOfEvent (Restart k) (restarts posts loaded) = loaded ≡ None

-- The result of an event at its node.

-- in the world w the event has the result r at node k
pub record IsEventAt {V : Type 0} (size : V → ℕ) (w : World V) (k : ℕ) (e : Event V) (r : Result (StepResult V) Refusal) : Type 0 where
  pub event_result : event_result_without_limit size w e ≡ after_step_or_fault w k r
  pub change : change_of size w e ≡ change_of_result r
  pub node : node_of w e ≡ Some k

-- the event has the result r in every world with at least these packets in which node k has that
-- state
abbrev pub HasResult : {V : Type 0} → (V → ℕ) → List (Packet V) → ℕ → Node V → Event V → Result (StepResult V) Refusal → Type 0
HasResult {V} size packets k n e r = (w : World V) (more : List (Packet V)) → w.packets ≡ packets ++ more → slice_get w.nodes k ≡ Some n → IsEventAt size w k e r

-- Staging an event at its node.

-- the event e of node k is staged, and its work makes this step
pub record IsStagedAt {V : Type 0} (old new : Core V) (k : ℕ) (e : Event V) (step : StepResult V) (staged : StagedEvent V) : Type 0 where
  pub at : staged.at ≡ k
  pub event : staged.event ≡ e
  pub ready : IsReadyAt new staged.work
  pub is_step : step_of staged.work old.node ≡ step
  pub kind : IsOfEvent e staged.work
  pub posts : AllByRecursion (IsPost (length old.node.weights)) (posts_of staged.work)

-- the event is staged; or its refusal is returned, or Memory if it meets none
abbrev pub IsStagingResultAt : {V : Type 0} → Core V → Core V → ℕ → Event V → Result (StepResult V) Refusal → Result (StagedEvent V) StepFault → Type 0
IsStagingResultAt old new k e (Ok step) (Ok staged) = IsStagedAt old new k e step staged
IsStagingResultAt old new k e (Ok step) (Err fault) = fault ≡ Memory
IsStagingResultAt old new k e (Err met) (Ok staged) = ⊥
IsStagingResultAt old new k e (Err met) (Err fault) = fault ≡ fault_of met

-- an event of any kind is staged, according to the result that its step has at the node
abbrev pub IsStagingResultOfEvent : {V : Type 0} → (V → ℕ) → List (Packet V) → Core V → Core V → ℕ → Event V → Result (StagedEvent V) StepFault → Type 0
IsStagingResultOfEvent size packets old new k (Offer j v) result = IsStagingResultAt old new k (Offer j v) (offer_result size old.node v) result
IsStagingResultOfEvent size packets old new k (Begin j) result = IsStagingResultAt old new k (Begin j) (begin_result old.node) result
IsStagingResultOfEvent {V} size packets old new k (Deliver number) result = (p : Packet V)
    → slice_get packets number ≡ Some p
    → IsStagingResultAt old new k (Deliver number) (Ok (on_packet old.node p)) result
IsStagingResultOfEvent size packets old new k (Restart j) result = IsStagingResultAt old new k (Restart j) (Ok (restarted old.node)) result

-- The net.

-- a net as contracts see it: the events taken, the nodes with their capacity, the packets, and the
-- capacity for packets and events
pub record NetView (V : Type 0) : Type 0 where
  pub history : History V
  pub cores : List (Core V)
  pub packets : List (Packet V)
  pub packet_capacity : ℕ
  pub event_capacity : ℕ

-- each node is unchanged, with at least the capacity that it had
abbrev pub EachChangesOnlyCapacity : {V : Type 0} → List (Core V) → List (Core V) → Type 0
EachChangesOnlyCapacity [] [] = Unit {0}
EachChangesOnlyCapacity (c ∷ cs) (d ∷ ds) = (d.node ≡ c.node) × KeepsCapacity c d × EachChangesOnlyCapacity cs ds
EachChangesOnlyCapacity [] (d ∷ ds) = ⊥
EachChangesOnlyCapacity (c ∷ cs) [] = ⊥

-- nothing but the reserved capacity has changed
pub record ChangesOnlyCapacity {V : Type 0} (old new : NetView V) : Type 0 where
  pub history : new.history ≡ old.history
  pub cores : EachChangesOnlyCapacity old.cores new.cores
  pub packets : new.packets ≡ old.packets
  pub packet_capacity : old.packet_capacity ≤ new.packet_capacity
  pub event_capacity : old.event_capacity ≤ new.event_capacity

-- the event is staged at its node
pub record IsStaged {V : Type 0} (size : V → ℕ) (net : NetView V) (staged : StagedEvent V) : Type 0 where
  pub core : Core V
  pub at : slice_get net.cores staged.at ≡ Some core
  pub ready : IsReadyAt core staged.work
  pub has_result : HasResult size net.packets staged.at core.node staged.event (Ok (step_of staged.work core.node))
  pub posts : AllByRecursion (IsPost (length net.history.weights)) (posts_of staged.work)

-- the event is staged; or its fault is returned, or Memory if it meets none
abbrev pub IsStagingResultInNet : {V : Type 0} → (V → ℕ) → NetView V → Event V → Result (World V) StepFault → Result (StagedEvent V) StepFault → Type 0
IsStagingResultInNet size net e (Ok w) (Ok staged) = IsStaged size net staged × (staged.event ≡ e) × IsOfEvent e staged.work
IsStagingResultInNet size net e (Ok w) (Err fault) = fault ≡ Memory
IsStagingResultInNet size net e (Err met) (Ok staged) = ⊥
IsStagingResultInNet size net e (Err met) (Err fault) = fault ≡ met

-- there is capacity for these numbers of further packets and events
pub record HasSpareCapacity {V : Type 0} (net : NetView V) (packets events : ℕ) : Type 0 where
  pub for_packets : length net.packets + packets ≤ net.packet_capacity
  pub for_events : length net.history.events + events ≤ net.event_capacity

-- the staged event was taken; `old_core` is its node before, and `core` after
pub record IsTaken {V : Type 0} (old new : NetView V) (staged : StagedEvent V) : Type 0 where
  pub old_core : Core V
  pub at : slice_get old.cores staged.at ≡ Some old_core
  pub core : Core V
  pub node : core.node ≡ (step_of staged.work old_core.node).node
  pub cores : new.cores ≡ slice_set old.cores staged.at core
  pub history : new.history ≡ with_event old.history staged.event
  pub packets : new.packets ≡ old.packets ++ posts_of staged.work
  pub packet_capacity : old.packet_capacity ≤ new.packet_capacity
  pub event_capacity : old.event_capacity ≤ new.event_capacity
