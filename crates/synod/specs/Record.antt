-- The kept part of a node, and its changes.
-- Source: Lamport, Paxos Made Simple, 2.5, on stable storage.
-- The code stores one change at a time and loads the whole record, which is the kept part.
use Rattle.std.specs.Prelude.{ℕ, ◌<◌, List, [], Option, Some, None}
use Rattle.synod.specs.Words.{put_at, Ballot, AcceptedEntry, Change, Round, Entry}
use Rattle.synod.specs.declared.change.Change.TheVariants.{Promise}
use Rattle.synod.specs.Ballots.{zero_ballot}

-- promise, round and accepted entries
pub record KeptPart (V : Type 0) : Type 0 where
  pub promise : Ballot
  pub round : ℕ
  pub accepted : List (Option (AcceptedEntry V))

-- the kept part of a new node
abbrev pub new_kept : {V : Type 0} → KeptPart V
new_kept = record { promise = zero_ballot; round = 0; accepted = [] }

-- the kept part after a change; the ballot of an accepted entry becomes the promise
abbrev pub changed : {V : Type 0} → KeptPart V → Change V → KeptPart V
changed kept (Round r) = record kept { round = r }
changed kept (Promise b) = record kept { promise = b }
changed kept (Entry s entry) = record kept { promise = entry.ballot; accepted = put_at kept.accepted s entry }

-- an event makes one change or none
abbrev pub changed_by : {V : Type 0} → KeptPart V → Option (Change V) → KeptPart V
changed_by kept None = kept
changed_by kept (Some change) = changed kept change

-- a record as contracts see it: the kept part, and the number of slots, from 0 on, for which memory
-- is reserved
pub record RecordView (V : Type 0) : Type 0 where
  pub kept : KeptPart V
  pub capacity : ℕ

-- there is capacity for the change
abbrev pub HasCapacityFor : {V : Type 0} → ℕ → Option (Change V) → Type 0
HasCapacityFor capacity None = Unit {0}
HasCapacityFor capacity (Some (Round r)) = Unit {0}
HasCapacityFor capacity (Some (Promise b)) = Unit {0}
HasCapacityFor capacity (Some (Entry s entry)) = s < capacity
