-- The store of a node: the record of its keep, and whether the node is up, or down since a call of
-- its keep failed.
-- Source: Lamport, Paxos Made Simple, section 2.5: an acceptor records its response in stable
-- storage before sending it.
-- The code has the keep itself. Contracts see the record that the keep would load, how many of its
-- calls failed, whether the node is up or down, with the pending event (the one whose store
-- failed), if there is one, and whether its changes are committed later, as those of a group.
use Rattle.std.specs.Prelude.{◌≡◌, ◌≢◌, ◌⊎◌, ◌+◌, ℕ, Bool, true, false, List, [], Option, Some, None}
use Rattle.switch.specs.Words.{Packet, Change, KeptPart, changed_by, new_kept, Node, kept_of, StagedEvent, change_in, posts_of}
use Rattle.switch.specs.declared.node_store.Status.{Status as RustStatus}
use Rattle.switch.specs.declared.node_store.Status.TheVariants.{Up, Down, Unloaded}

-- the view of the status: up; down, with the pending event, if there is one; or unloaded, that is
-- down since the record could not be loaded at the start
pub data Status (A : Type 0) : Type 0 where
  up : Status A
  down : Option A → Status A
  unloaded : Status A

abbrev pub status_of : {V : Type 0} → RustStatus V → Status (StagedEvent V)
status_of Up = up
status_of (Down pending) = down pending
status_of Unloaded = unloaded

-- the view of a `NodeStore`, with the pending event as it was staged; `StoreView` of `Switch` has
-- the event alone
pub record StoreState (V : Type 0) : Type 0 where
  pub kept : KeptPart V  -- the record that the keep would load
  pub failures : ℕ  -- how many calls of the keep failed
  pub status : Status (StagedEvent V)
  pub in_group : Bool  -- whether the changes of events are committed later, together

-- what was stored is committed, if the node is up and in no group; of a new node nothing was stored
abbrev pub IsCommitted : {V : Type 0} → Status (StagedEvent V) → Bool → KeptPart V → Bool → Type 0
IsCommitted status in_group kept is_committed = status ≡ up → in_group ≡ false → kept ≢ new_kept → is_committed ≡ true

-- The pending event, its change, and the packets that it posts.

abbrev pub pending_of : {V : Type 0} → Status (StagedEvent V) → Option (StagedEvent V)
pending_of up = None
pending_of (down pending) = pending
pending_of unloaded = None

abbrev pub pending_change : {V : Type 0} → Option (StagedEvent V) → Option (Change V)
pending_change None = None
pending_change (Some staged) = change_in staged.work

abbrev pub pending_posts : {V : Type 0} → Option (StagedEvent V) → List (Packet V)
pending_posts None = []
pending_posts (Some staged) = posts_of staged.work

-- the store once its keep has made the change
abbrev pub with_change : {V : Type 0} → StoreState V → Option (Change V) → StoreState V
with_change store change = record store { kept = changed_by store.kept change }

-- the store once its keep has made the change of the pending event, if there is one
abbrev pub with_pending_change : {V : Type 0} → StoreState V → StoreState V
with_pending_change store = with_change store (pending_change (pending_of store.status))

-- The record of the keep is the kept part of the node; while the node is down, the record may
-- instead be that kept part with the change of the pending event made. Of a node that is unloaded
-- it may be any.

-- the old record, or the old record with the change
abbrev pub IsWithOrWithout : {V : Type 0} → KeptPart V → Option (Change V) → KeptPart V → Type 0
IsWithOrWithout old change new = (new ≡ old) ⊎ (new ≡ changed_by old change)

abbrev pub IsRecordOf : {V : Type 0} → Node V → Status (StagedEvent V) → KeptPart V → Type 0
IsRecordOf n up kept = kept ≡ kept_of n
IsRecordOf n (down pending) kept = IsWithOrWithout (kept_of n) (pending_change pending) kept
IsRecordOf n unloaded kept = Unit {0}

-- the effect of a failed call of the keep
pub record Fails {V : Type 0} (old : StoreState V) (change : Option (Change V)) (status_after : Status (StagedEvent V)) (new : StoreState V) : Type 0 where
  pub kept : IsWithOrWithout old.kept change new.kept
  pub rest : new ≡ record { kept = new.kept; failures = old.failures + 1; status = status_after; in_group = old.in_group }

-- The end of a group.

abbrev pub ended : {V : Type 0} → StoreState V → StoreState V
ended store = record store { in_group = false }

-- a node that is up and whose keep commits is as before, but for the group; a node that is down
-- stays so; else the commit failed, and the node is down with no pending event
abbrev pub EndsGroup : {V : Type 0} → StoreState V → StoreState V → Bool → Type 0
EndsGroup old new true = (old.status ≡ up) × (new ≡ ended old)
EndsGroup old new false = ((old.status ≢ up) × (new ≡ ended old)) ⊎ ((old.status ≡ up) × Fails (ended old) None (down None) new)
