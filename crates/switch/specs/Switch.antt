-- The switch that the nodes of a cluster share: its history, and for each node the record of its
-- keep and whether it is up.
-- Source: Lamport, Paxos Made Simple, section 3; that a node is down after a failed store or load
-- is this project's choice.
-- The code has a net and the keeps; by the invariant of the type, the state of the net is that of
-- the world after the history.
use Rattle.std.specs.Prelude.{◌≡◌, ◌≢◌, ◌⊎◌, ◌+◌, ◌≤◌, ◌<◌, ℕ, Bool, true, false, List, [], ◌∷◌, ◌++◌, Option, Some, None, Result, Ok, Err, MatchResult, length, slice_get, slice_set}
use Rattle.std.specs.Borrow.{Bor}
use Rattle.switch.specs.Words.{Packet, Change, KeptPart, changed_by, new_kept, Node, kept_of, Event, Offer, Begin, Deliver, Restart, StepFault, Memory, Device, Down, EventsSpent, NoPacket, World, event_result, events_result, log_after, packets_after, AreOfWorld, History, first_world, world_of_taken, IsIdle, node_of, change_of, kept_part, StagedEvent, NetView, IsStaged, HasSpareCapacity, IsTaken, posts_of}
use Rattle.switch.specs.NodeStore.{Status, up, down, unloaded, StoreState, IsRecordOf, IsWithOrWithout}

-- The switch as contracts see it.

-- the store of a node: the record that its keep would load, how many calls of the keep failed,
-- its status: up, or down with the pending event, if there is one, and whether the changes of its
-- events are committed later, as those of a group; else what a node that is up stored is committed
pub record StoreView (V : Type 0) : Type 0 where
  pub kept : KeptPart V
  pub failures : ℕ
  pub status : Status (Event V)
  pub in_group : Bool

pub record SwitchView (V : Type 0) : Type 0 where
  pub weights : List ℕ
  pub event_limit : ℕ  -- the number of events that the switch takes
  pub begins : List (KeptPart V)  -- what the nodes began with
  pub history : List (Event V)
  pub stores : List (StoreView V)

abbrev pub pending_event : {V : Type 0} → Option (StagedEvent V) → Option (Event V)
pending_event None = None
pending_event (Some staged) = Some staged.event

abbrev pub status_view : {V : Type 0} → Status (StagedEvent V) → Status (Event V)
status_view up = up
status_view (down pending) = down (pending_event pending)
status_view unloaded = unloaded

abbrev pub view_of : {V : Type 0} → StoreState V → StoreView V
view_of store = record { kept = store.kept; failures = store.failures; status = status_view store.status; in_group = store.in_group }

abbrev pub views_of : {V : Type 0} → List (StoreState V) → List (StoreView V)
views_of [] = []
views_of (store ∷ stores) = view_of store ∷ views_of stores

-- the stores of new nodes as contracts see them, with these keeps; `failures` counts the failed
-- calls of a keep
abbrev pub new_views : {V K : Type 0} → (K → ℕ) → List K → List (StoreView V)
new_views failures [] = []
new_views failures (keep ∷ keeps) = record { kept = new_kept; failures = failures keep; status = up; in_group = false } ∷ new_views failures keeps

-- the stores of nodes that are up, with these keeps
abbrev pub new_stores : {V K : Type 0} → (K → KeptPart V) → (K → ℕ) → List K → List (StoreState V)
new_stores kept failures [] = []
new_stores kept failures (keep ∷ keeps) = record { kept = kept keep; failures = failures keep; status = up; in_group = false } ∷ new_stores kept failures keeps

-- The switch of nodes that begin with the records of keeps.

-- a node that begins with the record of its keep and is up; or one whose record could not be loaded,
-- which begins as a new one and is unloaded
abbrev pub IsResumedStore : {V : Type 0} → KeptPart V → ℕ → KeptPart V → StoreView V → Type 0
IsResumedStore kept failures begun view =
    ((begun ≡ kept) × (view ≡ record { kept = kept; failures = failures; status = up; in_group = false }))
    ⊎ ((begun ≡ new_kept) × (view ≡ record { kept = kept; failures = failures + 1; status = unloaded; in_group = false }))

-- each keep has such a node, given by what it begins with and by its store; `kept` gives the record
-- of a keep, and `failures` the count of its failed calls
abbrev pub AreResumedStores : {V K : Type 0} → (K → KeptPart V) → (K → ℕ) → List K → List (KeptPart V) → List (StoreView V) → Type 0
AreResumedStores kept failures [] [] [] = Unit {0}
AreResumedStores kept failures (keep ∷ keeps) (begun ∷ begins) (view ∷ views) = IsResumedStore (kept keep) (failures keep) begun view × AreResumedStores kept failures keeps begins views
AreResumedStores kept failures [] (begun ∷ begins) views = ⊥
AreResumedStores kept failures [] [] (view ∷ views) = ⊥
AreResumedStores kept failures (keep ∷ keeps) [] views = ⊥
AreResumedStores kept failures (keep ∷ keeps) (begun ∷ begins) [] = ⊥

-- before any event, the switch of nodes that begin with the records of these keeps
pub record IsResumed {V K : Type 0} (kept : K → KeptPart V) (failures : K → ℕ) (weights : List ℕ) (limit : ℕ) (keeps : List K) (switch : SwitchView V) : Type 0 where
  pub weights_are : switch.weights ≡ weights
  pub limit_is : switch.event_limit ≡ limit
  pub no_events : switch.history ≡ []
  pub stores : AreResumedStores kept failures keeps switch.begins switch.stores

-- The invariant of the type.

-- the pending event, if there is one, is staged at the node; nothing happens at an unloaded one
abbrev pub IsPendingStaged : {V : Type 0} → (V → ℕ) → NetView V → ℕ → Status (StagedEvent V) → Type 0
IsPendingStaged size net k up = Unit {0}
IsPendingStaged size net k (down None) = Unit {0}
IsPendingStaged size net k (down (Some staged)) = (staged.at ≡ k) × IsStaged size net staged
IsPendingStaged size net k unloaded = IsIdle size net.history k

-- the record of the keep and the pending event fit the node
pub record StoreFitsNode {V : Type 0} (size : V → ℕ) (net : NetView V) (k : ℕ) (n : Node V) (store : StoreState V) : Type 0 where
  pub fits : IsRecordOf n store.status store.kept
  pub pending_staged : IsPendingStaged size net k store.status

-- the net is that of a world, and each node has a store that fits it
pub record IsSwitch {V : Type 0} (size : V → ℕ) (net : NetView V) (stores : List (StoreState V)) : Type 0 where
  pub world : AreOfWorld size net.history net.cores net.packets
  pub count : length stores ≡ length net.cores
  pub each : (k : ℕ) (n : Node V) (store : StoreState V) → slice_get world.world.nodes k ≡ Some n → slice_get stores k ≡ Some store → StoreFitsNode size net k n store

-- The facts that the contracts of the calls state.

-- the history of a switch as that of a net
abbrev pub history_of : {V : Type 0} → SwitchView V → History V
history_of switch = record { weights = switch.weights; event_limit = switch.event_limit; begins = switch.begins; events = switch.history }

-- the world after the history
abbrev pub world_of : {V : Type 0} → (V → ℕ) → SwitchView V → Result (World V) StepFault
world_of size switch = world_of_taken size (history_of switch)

-- the events are taken by nodes that began as those of the switch, and w is the world after them
abbrev pub IsAfter : {V : Type 0} → (V → ℕ) → SwitchView V → List (Event V) → World V → Type 0
IsAfter size switch events w = events_result size events (Ok (first_world (history_of switch))) ≡ Ok w

-- the result is the packet with this number, counted from 0 in the order of posting, or NoPacket if
-- there is none
abbrev pub IsPacketResult : {V : Type 0} → World V → ℕ → Result (Bor (Packet V)) StepFault → Type 0
IsPacketResult w number result = MatchResult result (λ packet. slice_get w.packets number ≡ Some packet.now) (λ fault. (slice_get w.packets number ≡ None) × (fault ≡ NoPacket))

-- the change that the pending event makes in a world
abbrev pub change_of_pending : {V : Type 0} → (V → ℕ) → World V → Option (Event V) → Option (Change V)
change_of_pending size w None = None
change_of_pending size w (Some e) = change_of size w e

-- the record of the keep is the kept part of its node; while the node is down, the record may
-- instead be that kept part with the change of the pending event made; of an unloaded node it may be
-- any
abbrev pub IsRecordIn : {V : Type 0} → (V → ℕ) → World V → Node V → Status (Event V) → KeptPart V → Type 0
IsRecordIn size w n up kept = kept ≡ kept_of n
IsRecordIn size w n (down e) kept = IsWithOrWithout (kept_of n) (change_of_pending size w e) kept
IsRecordIn size w n unloaded kept = Unit {0}

-- there is a view of a store exactly if there is a node, and its record fits the node
abbrev pub ViewFitsNode : {V : Type 0} → (V → ℕ) → World V → Option (Node V) → Option (StoreView V) → Type 0
ViewFitsNode size w None None = Unit {0}
ViewFitsNode size w (Some n) (Some view) = IsRecordIn size w n view.status view.kept
ViewFitsNode size w None (Some view) = ⊥
ViewFitsNode size w (Some n) None = ⊥

-- each node has its store
abbrev pub AreStores : {V : Type 0} → (V → ℕ) → World V → List (StoreView V) → Type 0
AreStores size w stores = (k : ℕ) → ViewFitsNode size w (slice_get w.nodes k) (slice_get stores k)

-- nothing happened at a node that is unloaded
abbrev pub UnloadedAreIdle : {V : Type 0} → (V → ℕ) → SwitchView V → Type 0
UnloadedAreIdle {V} size switch = (k : ℕ) (view : StoreView V) → slice_get switch.stores k ≡ Some view → view.status ≡ unloaded → IsIdle size (history_of switch) k

-- Events.

abbrev pub is_down : {V : Type 0} → Status (Event V) → Bool
is_down up = false
is_down (down e) = true
is_down unloaded = true

abbrev pub is_down_view : {V : Type 0} → Option (StoreView V) → Bool
is_down_view None = false
is_down_view (Some view) = is_down view.status

-- the node of the event is down
abbrev pub is_down_at : {V : Type 0} → List (StoreView V) → Option ℕ → Bool
is_down_at views None = false
is_down_at views (Some k) = is_down_view (slice_get views k)

abbrev pub is_unloaded : {V : Type 0} → Status (Event V) → Bool
is_unloaded up = false
is_unloaded (down e) = false
is_unloaded unloaded = true

abbrev pub is_unloaded_view : {V : Type 0} → Option (StoreView V) → Bool
is_unloaded_view None = false
is_unloaded_view (Some view) = is_unloaded view.status

-- node k is unloaded
abbrev pub is_unloaded_at : {V : Type 0} → List (StoreView V) → ℕ → Bool
is_unloaded_at views k = is_unloaded_view (slice_get views k)

-- the fault is returned, and everything is as before
abbrev pub Refuses : {V : Type 0} → SwitchView V → SwitchView V → Result ℕ StepFault → StepFault → Type 0
Refuses old new result fault = (result ≡ Err fault) × (new ≡ old)

abbrev pub with_store : {V : Type 0} → SwitchView V → ℕ → StoreView V → SwitchView V
with_store old k view = record { weights = old.weights; event_limit = old.event_limit; begins = old.begins; history = old.history; stores = slice_set old.stores k view }

-- the keep has made the change, and the event is taken
abbrev pub with_event : {V : Type 0} → SwitchView V → ℕ → StoreView V → Option (Change V) → Event V → SwitchView V
with_event old k view change e =
    record (with_store old k (record view { kept = changed_by view.kept change })) { history = old.history ++ e ∷ [] }

-- the event that is pending if the keep of a node that is up fails at this event; none for a
-- restart, which stores nothing at such a node
abbrev pub pending_on_failure : {V : Type 0} → Event V → Option (Event V)
pending_on_failure (Offer k v) = Some (Offer k v)
pending_on_failure (Begin k) = Some (Begin k)
pending_on_failure (Deliver number) = Some (Deliver number)
pending_on_failure (Restart k) = None

-- a call of the keep of node k failed: the count of its failures grows by one, the record is the
-- old one or has the change, the node has this status, and nothing else changes
pub record FailsAt {V : Type 0} (old new : SwitchView V) (k : ℕ) (view : StoreView V) (change : Option (Change V)) (status_after : Status (Event V)) : Type 0 where
  pub kept : KeptPart V
  pub either : IsWithOrWithout view.kept change kept
  pub rest : new ≡ with_store old k record { kept = kept; failures = view.failures + 1; status = status_after; in_group = view.in_group }

-- an event that meets no fault is taken, and x is the world after it; or an allocation failed, or
-- the keep failed
abbrev pub IsOutcomeAt : {V : Type 0} → SwitchView V → SwitchView V → Event V → ℕ → StoreView V → Option (Change V) → World V → Result ℕ StepFault → Type 0
IsOutcomeAt old new e k view change x (Ok count) = (new ≡ with_event old k view change e) × (count ≡ length x.packets)
IsOutcomeAt old new e k view change x (Err fault) = ((fault ≡ Memory) × (new ≡ old)) ⊎ ((fault ≡ Device) × FailsAt old new k view change (down (pending_on_failure e)))

-- the effect of an event whose node is up, or that has no node; w is the world after the old
-- history
pub record IsEffectUnlessDown {V : Type 0} (size : V → ℕ) (w : World V) (old new : SwitchView V) (e : Event V) (result : Result ℕ StepFault) : Type 0 where
  pub refused : (fault : StepFault) → event_result size w e ≡ Err fault → Refuses old new result fault
  pub taken : (x : World V) → event_result size w e ≡ Ok x → (k : ℕ) → node_of w e ≡ Some k → (view : StoreView V)
      → slice_get old.stores k ≡ Some view → IsOutcomeAt old new e k view (change_of size w e) x result

-- Restarts of a node that is down.

abbrev pub pending_events : {V : Type 0} → Option (Event V) → List (Event V)
pending_events None = []
pending_events (Some e) = e ∷ []

-- the history with the pending event, if there is one, and then the restart of node k
abbrev pub recovered_history : {V : Type 0} → SwitchView V → Option (Event V) → ℕ → List (Event V)
recovered_history old e k = old.history ++ pending_events e ++ Restart k ∷ []

-- node k is up again with the record that its keep loaded: the pending event, if there is one, and
-- then the restart are taken
pub record IsRecovered {V : Type 0} (size : V → ℕ) (old new : SwitchView V) (k : ℕ) (view : StoreView V) (e : Option (Event V)) (count : ℕ) : Type 0 where
  pub world : World V
  pub is_after : IsAfter size old (recovered_history old e k) world
  pub counted : count ≡ length world.packets
  pub kept : KeptPart V
  pub is_kept : kept_part world k ≡ Some kept
  pub rest : new ≡ record {
    weights = old.weights;
    event_limit = old.event_limit;
    begins = old.begins;
    history = recovered_history old e k;
    stores = slice_set old.stores k (record view { kept = kept; status = up });
  }

-- an allocation failed: everything but the record is as before
pub record StaysDownAt {V : Type 0} (old new : SwitchView V) (k : ℕ) (view : StoreView V) (change : Option (Change V)) : Type 0 where
  pub kept : KeptPart V
  pub either : IsWithOrWithout view.kept change kept
  pub rest : new ≡ with_store old k (record view { kept = kept })

-- node k is up again; or an allocation or the keep failed, and it stays down
abbrev pub IsRecoveryOutcome : {V : Type 0} → (V → ℕ) → World V → SwitchView V → SwitchView V → ℕ → StoreView V → Option (Event V) → Result ℕ StepFault → Type 0
IsRecoveryOutcome size w old new k view e (Ok count) = IsRecovered size old new k view e count
IsRecoveryOutcome size w old new k view e (Err fault) =
    ((fault ≡ Memory) × StaysDownAt old new k view (change_of_pending size w e)) ⊎ ((fault ≡ Device) × FailsAt old new k view (change_of_pending size w e) view.status)

-- the effect of a restart at a node that is down; e is its pending event
pub record IsEffectOfRecovery {V : Type 0} (size : V → ℕ) (w : World V) (old new : SwitchView V) (k : ℕ) (view : StoreView V) (e : Option (Event V)) (result : Result ℕ StepFault) : Type 0 where
  pub spent : old.event_limit < length old.history + 2 → Refuses old new result EventsSpent
  pub recovered : length old.history + 2 ≤ old.event_limit → IsRecoveryOutcome size w old new k view e result

-- Restarts of a node that is unloaded.

-- node k is up with the record that its keep loaded now, with which it begins; nothing else changes
pub record IsLoadedAgain {V : Type 0} (size : V → ℕ) (old new : SwitchView V) (k : ℕ) : Type 0 where
  pub view : StoreView V
  pub at : slice_get old.stores k ≡ Some view
  pub rest : new ≡ record {
    weights = old.weights;
    event_limit = old.event_limit;
    begins = slice_set old.begins k view.kept;
    history = old.history;
    stores = slice_set old.stores k (record view { status = up });
  }
  -- nodes that began so take the history too, each has its store, and the logs are as before
  pub world : World V
  pub is_after : world_of size new ≡ Ok world
  pub stores : AreStores size world new.stores
  pub logs : (j : ℕ) → log_after (world_of size new) j ≡ log_after (world_of size old) j

-- the record of node k could not be loaded again
pub record StaysUnloaded {V : Type 0} (old new : SwitchView V) (k : ℕ) : Type 0 where
  pub view : StoreView V
  pub at : slice_get old.stores k ≡ Some view
  pub fails : FailsAt old new k view None unloaded

-- the record could not be loaded again; or it was, and the node restarts as one that is up
abbrev pub IsReloadOutcome : {V : Type 0} → (V → ℕ) → SwitchView V → SwitchView V → ℕ → Result ℕ StepFault → Type 0
IsReloadOutcome {V} size old new k result =
    ((result ≡ Err Device) × StaysUnloaded old new k)
    ⊎ ((between : SwitchView V) × IsLoadedAgain size old between k
    × ((w : World V) → world_of size between ≡ Ok w → IsEffectUnlessDown size w between new (Restart k) result))

-- Events in general.

-- the effect of an event whose node is down: a restart may bring it up again, and every other event
-- is refused
abbrev pub IsEffectAtDownNode : {V : Type 0} → (V → ℕ) → World V → SwitchView V → SwitchView V → Event V → Result ℕ StepFault → Type 0
IsEffectAtDownNode size w old new (Offer k v) result = Refuses old new result Down
IsEffectAtDownNode size w old new (Begin k) result = Refuses old new result Down
IsEffectAtDownNode size w old new (Deliver number) result = Refuses old new result Down
IsEffectAtDownNode {V} size w old new (Restart k) result = (view : StoreView V) → slice_get old.stores k ≡ Some view
    → (e : Option (Event V)) → view.status ≡ down e → IsEffectOfRecovery size w old new k view e result

-- the effect of an event; w is the world after the old history
pub record IsEffect {V : Type 0} (size : V → ℕ) (w : World V) (old new : SwitchView V) (e : Event V) (result : Result ℕ StepFault) : Type 0 where
  pub is_down : is_down_at old.stores (node_of w e) ≡ true → IsEffectAtDownNode size w old new e result
  pub is_unloaded : (k : ℕ) → e ≡ Restart k → is_unloaded_at old.stores k ≡ true → IsReloadOutcome size old new k result
  pub is_up : is_down_at old.stores (node_of w e) ≡ false → IsEffectUnlessDown size w old new e result

-- no event of the old history meets a fault; each node of the world after it has its store; and
-- the event has its effect in that world
pub record Plays {V : Type 0} (size : V → ℕ) (old new : SwitchView V) (e : Event V) (result : Result ℕ StepFault) : Type 0 where
  pub world : World V
  pub is_after : world_of size old ≡ Ok world
  pub stores : AreStores size world old.stores
  pub effect : IsEffect size world old new e result

-- Several packets at one node, whose changes are committed together.

-- the switch with the changes of node k committed later, or not; the last argument is its store
abbrev pub with_group_of : {V : Type 0} → SwitchView V → ℕ → Bool → Option (StoreView V) → SwitchView V
with_group_of old k in_group None = old
with_group_of old k in_group (Some view) = with_store old k (record view { in_group = in_group })

abbrev pub with_group : {V : Type 0} → SwitchView V → ℕ → Bool → SwitchView V
with_group old k in_group = with_group_of old k in_group (slice_get old.stores k)

-- a packet that is addressed to node k is delivered, whatever the result; else it is left out
abbrev pub DeliversOrLeaves : {V : Type 0} → (V → ℕ) → ℕ → SwitchView V → SwitchView V → ℕ → Type 0
DeliversOrLeaves {V} size k old new number = ((result : Result ℕ StepFault) × Plays size old new (Deliver number) result)
    ⊎ ((new ≡ old) × ((w : World V) → world_of size old ≡ Ok w → node_of w (Deliver number) ≢ Some k))

-- the packets are delivered one after another
abbrev pub DeliversInTurn : {V : Type 0} → (V → ℕ) → ℕ → SwitchView V → SwitchView V → List ℕ → Type 0
DeliversInTurn size k old new [] = new ≡ old
DeliversInTurn {V} size k old new (number ∷ numbers) = (between : SwitchView V) × DeliversOrLeaves size k old between number × DeliversInTurn size k between new numbers

-- the commit at the end of a group: node k is up and all is committed; or it was down and stays so;
-- or the commit failed, and the node is down with no pending event
abbrev pub EndsGroupAt : {V : Type 0} → SwitchView V → SwitchView V → ℕ → StoreView V → Bool → Type 0
EndsGroupAt old new k view true = (view.status ≡ up) × (new ≡ with_store old k (record view { in_group = false }))
EndsGroupAt old new k view false = ((is_down view.status ≡ true) × (new ≡ with_store old k (record view { in_group = false })))
    ⊎ ((view.status ≡ up) × FailsAt old new k (record view { in_group = false }) None (down None))

-- packets are delivered at node k in turn, and their changes are committed together; `posted` counts
-- all packets then
pub record DeliversTogether {V : Type 0} (size : V → ℕ) (k : ℕ) (old new : SwitchView V) (packets : List ℕ) (posted : ℕ) (is_committed : Bool) : Type 0 where
  pub between : SwitchView V
  pub delivers : DeliversInTurn size k (with_group old k true) between packets
  pub commits : (view : StoreView V) → slice_get between.stores k ≡ Some view → EndsGroupAt between new k view is_committed
  pub no_node : slice_get between.stores k ≡ None → new ≡ between
  pub counted : posted ≡ length (packets_after (world_of size new))

-- At the restart of a node that is down, its pending event is taken first.

abbrev pub CanCommitPending : {V : Type 0} → (V → ℕ) → NetView V → Option (StagedEvent V) → Type 0
CanCommitPending size net None = Unit {0}
CanCommitPending size net (Some staged) = IsStaged size net staged × HasSpareCapacity net (length (posts_of staged.work)) 1 × (length net.history.events < net.history.event_limit)

abbrev pub CommitsPending : {V : Type 0} → NetView V → NetView V → Option (StagedEvent V) → Type 0
CommitsPending old new None = new ≡ old
CommitsPending old new (Some staged) = IsTaken old new staged
