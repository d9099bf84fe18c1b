-- A keep in a file: what the file says, and what a crash leaves.
-- Source: Lamport, Paxos Made Simple, 2.5; the transactions of the kit's SQLite.
-- The code keeps the record in memory too, so that what a load returns does not rest on the disk.
use Rattle.std.specs.Prelude.{◌≡◌, ◌⊎◌, ◌+◌, ℕ, Bool, true, false, List, Option, Some, None, IsTrue}
use Rattle.file_keep.specs.Words.{changed, Change, AcceptedEntry, Value, Trees, put_row, View, IsClean, trimmed, entry_at}
use Rattle.file_keep.specs.Rows.{Content, Says, ballot_columns, text_columns, row_at, node_row}
use Rattle.file_keep.specs.Tables.{HasTrees, PutsNode}
use Rattle.file_keep.specs.declared.rows.TheConstants.{ACCEPTED, TEXTS, NODE}
use Rattle.file_keep.specs.declared.file_keep.Standing.{Standing}
use Rattle.file_keep.specs.declared.file_keep.Standing.TheVariants.{Settled, Written, Unread, Unwritten}
use Rattle.synod.specs.declared.change.Change.TheVariants.{Round, Promise, Entry}

-- A keep as contracts see it: its store; its content, which is the record that it has in memory;
-- whether the last commit says it, and whether the transaction does; and how many of the keep's
-- calls failed.
pub record KeepView (V S : Type 0) : Type 0 where
  pub store : S
  pub content : Content V
  pub is_settled : Bool
  pub is_written : Bool
  pub failures : ℕ

-- a keep with a witness: the keep, the number of changes that the witness tells, and how often a
-- note failed
pub record WitnessedView (V S : Type 0) : Type 0 where
  pub keep : KeepView V S
  pub noted : ℕ
  pub failed_notes : ℕ

-- the content with one more change
abbrev pub with_change : {V : Type 0} → Content V → Change V → Content V
with_change content change = record { kept = changed content.kept change; changes = content.changes + 1 }

-- The standing of a keep.

abbrev pub is_settled : Standing → Bool
is_settled Settled = true
is_settled Written = false
is_settled Unread = false
is_settled Unwritten = false

-- what the transaction sees is the record
abbrev pub is_written : Standing → Bool
is_written Settled = true
is_written Written = true
is_written Unread = false
is_written Unwritten = false

-- the slot whose entry a change sets
abbrev pub changed_slot : {V : Type 0} → Change V → Option ℕ
changed_slot (Round r) = None
changed_slot (Promise b) = None
changed_slot (Entry slot entry) = Some slot

-- the last commit says the content, and nothing was written since
pub record IsSettledAt {V : Type 0} (columns : V → List Value) (v : View) (content : Content V) : Type 0 where
  pub was_open : IsTrue v.is_open
  pub sound : v.is_broken ≡ false
  pub same : v.trees ≡ v.committed
  pub says : Says columns v.committed content

-- the invariant of a keep
pub record IsKeep {V S : Type 0} (view : S → View) (columns : V → List Value) (store : S) (standing : Standing) (content : Content V) : Type 0 where
  pub trees : IsClean (view store) → HasTrees (view store)
  pub settled : IsTrue (is_settled standing) → IsClean (view store) → IsSettledAt columns (view store) content
  pub written : IsTrue (is_written standing) → IsClean (view store) → Says columns (view store).trees content
  pub whole : trimmed content.kept.accepted ≡ content.kept.accepted

-- the invariant of a keep whose file is closed
pub record IsClosed {V : Type 0} (standing : Standing) (content : Content V) : Type 0 where
  pub unknown : is_written standing ≡ false
  pub whole : trimmed content.kept.accepted ≡ content.kept.accepted

-- the rows of the slot and of the node were put
pub record WritesEntry {V : Type 0} (columns : V → List Value) (old new : View) (slot : ℕ) (content : Content V) : Type 0 where
  pub entry : (entry : AcceptedEntry V) → entry_at content.kept.accepted slot ≡ Some entry
      → (new.trees ACCEPTED ≡ put_row (row_at slot (ballot_columns entry)) (old.trees ACCEPTED)) ×
      (new.trees TEXTS ≡ put_row (row_at slot (text_columns columns entry)) (old.trees TEXTS))
  pub node : new.trees NODE ≡ put_row (node_row content) (old.trees NODE)

-- the rows of a change were put: those of its slot, and that of the node
abbrev pub Writes : {V : Type 0} → (V → List Value) → View → View → Option ℕ → Content V → Type 0
Writes columns old new None content = PutsNode old new (node_row content)
Writes columns old new (Some slot) content = WritesEntry columns old new slot content

-- What a crash leaves, and what a file says after it.

-- a crash leaves the content and nothing else
abbrev pub LeavesOnly : {V S : Type 0} → (S → Trees → Type 0) → (V → List Value) → S → Content V → Type 0
LeavesOnly recovers columns store content = (db : Trees) → recovers store db → Says columns db content

-- the file has the content of the keep, whatever happens
pub record IsDurable {V S : Type 0} (view : S → View) (recovers : S → Trees → Type 0) (columns : V → List Value) (keep : KeepView V S) : Type 0 where
  pub settled : IsTrue keep.is_settled
  pub says : IsClean (view keep.store) → Says columns (view keep.store).committed keep.content
  pub crash : IsClean (view keep.store) → LeavesOnly recovers columns keep.store keep.content

-- the open transaction says the content of the keep, so the next commit makes it durable
abbrev pub IsWritten : {V S : Type 0} → (S → View) → (V → List Value) → KeepView V S → Type 0
IsWritten view columns keep = IsClean (view keep.store) → Says columns (view keep.store).trees keep.content

-- after a call a crash leaves what it might have left before the call, or the content
abbrev pub LeavesOr : {V S : Type 0} → (S → View) → (S → Trees → Type 0) → (V → List Value) → S → S → Content V → Type 0
LeavesOr view recovers columns old new content = IsClean (view new) → (db : Trees) → recovers new db → Says columns db content ⊎ recovers old db

-- after a call a crash leaves only what it might have left before the call
abbrev pub LeavesNothingNew : {S : Type 0} → (S → Trees → Type 0) → S → S → Type 0
LeavesNothingNew recovers old new = (db : Trees) → recovers new db → recovers old db
