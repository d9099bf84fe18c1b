-- What the calls of a store do to the three trees.
-- Source: the contracts of `Store` of the kit's SQLite.
-- A store of which a wrong answer was taken as true is not clean, and then nothing is said of it.
use Rattle.std.specs.Prelude.{◌≡◌, ◌≤◌, ◌⊎◌, ℕ, List, [], ◌++◌, IsSome, IsTrue, Some, false}
use Rattle.file_keep.specs.Words.{AcceptedEntry, Row, Value, Trees, put_row, with_tree, View, IsClean, doubt, Table}
use Rattle.file_keep.specs.Rows.{ballot_columns, row_at, text_columns}
use Rattle.file_keep.specs.declared.rows.TheConstants.{ACCEPTED, TEXTS, NODE}

-- the store has the three trees
pub record HasTables (v : View) : Type 0 where
  pub accepted : v.shape ACCEPTED ≡ Table
  pub texts : v.shape TEXTS ≡ Table
  pub node : v.shape NODE ≡ Table

-- the same, and the last commit left no others
pub record HasTrees (v : View) : Type 0 where
  pub accepted : v.shape ACCEPTED ≡ Table
  pub texts : v.shape TEXTS ≡ Table
  pub node : v.shape NODE ≡ Table
  pub committed : v.shape ≡ v.committed_shape

-- after a call a store has the trees that it had, and it was clean if it is
pub record KeepsTrees (old new : View) : Type 0 where
  pub clean : doubt old.is_clean ≤ doubt new.is_clean
  pub trees : IsClean new → HasTrees old → HasTrees new

-- the same, and a crash leaves nothing new
pub record Keeps {S : Type 0} (view : S → View) (recovers : S → Trees → Type 0) (old new : S) : Type 0 where
  pub clean : doubt (view old).is_clean ≤ doubt (view new).is_clean
  pub trees : IsClean (view new) → HasTrees (view old) → HasTrees (view new)
  pub outcomes : (db : Trees) → recovers new db → recovers old db

-- the row is put into the tree
pub record PutsRow (old new : View) (tree : ℕ) (row : Row) : Type 0 where
  pub sound : new.is_broken ≡ false
  pub put : (t : ℕ) → new.trees t ≡ with_tree old.trees tree (put_row row (old.trees tree)) t

-- the cursor has given these rows of the tree, and the store is as it was
pub record Scans {S : Type 0} (view : S → View) (recovers : S → Trees → Type 0) (old new : S) (tree : ℕ) (given : List Row) : Type 0 where
  pub live : IsSome ((view new).cursors 0)
  pub keeps : Keeps view recovers old new
  pub sound : IsClean (view new) → (view new).is_broken ≡ false
  pub same : IsClean (view new) → (view new).trees ≡ (view old).trees
  pub left : IsClean (view new) → (left : List Row) × ((view new).cursors 0 ≡ Some left) × ((view old).trees tree ≡ given ++ left)

-- the trees were read, and nothing changed
pub record Reads (old new : View) : Type 0 where
  pub sound : new.is_broken ≡ false
  pub same : new.trees ≡ old.trees

-- the cursor gives these rows, and nothing else changes
pub record Gives (old new : View) (rows : List Row) : Type 0 where
  pub left : List Row
  pub before : old.cursors 0 ≡ Some (rows ++ left)
  pub after : new.cursors 0 ≡ Some left
  pub sound : new.is_broken ≡ old.is_broken
  pub same : new.trees ≡ old.trees

-- the cursor is at the end, and nothing changes
pub record Ends (old new : View) : Type 0 where
  pub end : old.cursors 0 ≡ Some []
  pub sound : new.is_broken ≡ old.is_broken
  pub same : new.trees ≡ old.trees

-- What a change writes.

-- the rows of a slot are put
pub record PutsEntry {V : Type 0} (columns : V → List Value) (old new : View) (slot : ℕ) (entry : AcceptedEntry V) : Type 0 where
  pub sound : new.is_broken ≡ false
  pub accepted : new.trees ACCEPTED ≡ put_row (row_at slot (ballot_columns entry)) (old.trees ACCEPTED)
  pub texts : new.trees TEXTS ≡ put_row (row_at slot (text_columns columns entry)) (old.trees TEXTS)
  pub node : new.trees NODE ≡ old.trees NODE

-- the row of the node is put
pub record PutsNode (old new : View) (row : Row) : Type 0 where
  pub sound : new.is_broken ≡ false
  pub accepted : new.trees ACCEPTED ≡ old.trees ACCEPTED
  pub texts : new.trees TEXTS ≡ old.trees TEXTS
  pub node : new.trees NODE ≡ put_row row (old.trees NODE)

-- what the transaction wrote is committed
pub record IsCommitted (old new : View) : Type 0 where
  pub was_open : IsTrue new.is_open
  pub sound : new.is_broken ≡ false
  pub committed : new.committed ≡ old.trees
  pub same : new.trees ≡ old.trees

-- a crash leaves what the transaction wrote, or what it left before
abbrev pub LeavesTrees : {S : Type 0} → (S → View) → (S → Trees → Type 0) → S → S → Type 0
LeavesTrees view recovers old new = (db : Trees) → recovers new db → (db ≡ (view old).trees) ⊎ recovers old db
