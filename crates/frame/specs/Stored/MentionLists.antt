-- The mentions of a symbol by the statements of a kind, each with what was active beneath it.
-- Internal to the code: no public clause cites it.
-- Metamath, 4.2.8: blocks nest, so all that was active at an active statement is still active.
-- The code goes from the last mention before a position down to the first one that is active there.
use Rattle.std.specs.Prelude.{◌≡◌, ℕ, ◌+◌, ◌-◌, ◌<◌, ◌≤◌, ◌⊎◌, Bool, true, false, ◌&&◌, List, [], ◌∷◌, length, take, slice_get, Option, Some, None}
use Rattle.frame.specs.Words.{Stmt, Database, Entry, Kind, Disj, Var, LastActive, Mention, AreMentions, AreUntil, IsUntil, mentions_of, positions_of, is_active, is_open}
use Rattle.frame.specs.Below.{AreBelow}
use Rattle.frame.specs.LastActive.{actives, last_active_of_kind}
use Rattle.frame.specs.Stored.Ends.{is_open_at}
use Rattle.frame.specs.Stored.EntryMeanings.{shapes_of}
use Rattle.frame.specs.Stored.Stacks.{IsOfKind, has_code, kind_test, positions_with}

-- xs is ys without some of its first items
abbrev pub IsTail : List ℕ → List ℕ → Type 0
IsTail xs [] = xs ≡ []
IsTail xs (y ∷ ys) = (xs ≡ y ∷ ys) ⊎ IsTail xs ys

-- what is active right after the mention's statement is found from the mention down
pub record IsSound (kind : Stmt → Bool) (es : List Entry) (S : Database) (c : ℕ) (list : List Mention) (m : Mention) : Type 0 where
  pub one : 1 ≤ m.position
  pub has : IsOfKind kind S m.position → has_code es c m.position ≡ true
  pub lower : AreBelow m.position (positions_of (take m.beneath list))
  pub leads : IsTail (positions_with es c (actives kind (take m.position S))) (m.position ∷ positions_of (take m.beneath list))

-- each statement of the kind that has the symbol c mentions it; later statements may as well
pub record IsListOf (kind : Stmt → Bool) (es : List Entry) (S : Database) (c : ℕ) (list : List Mention) : Type 0 where
  pub mentions : AreMentions list
  pub sound : (i : ℕ) (m : Mention) → slice_get list i ≡ Some m → m.position ≤ length S → IsSound kind es S c list m
  pub complete : (p : ℕ) → IsOfKind kind S p → has_code es c p ≡ true → (i : ℕ) × (m : Mention) × (slice_get list i ≡ Some m) × (m.position ≡ p)

-- the kind of an entry is that of a table: of `$d`, or of `$v`
abbrev pub is_entry_of : Kind → Kind → Bool
is_entry_of Disj Disj = true
is_entry_of Disj kind = false
is_entry_of table Var = true
is_entry_of table kind = false

-- the statement, if there is one, passes the test
abbrev pub passes : (Stmt → Bool) → Option Stmt → Bool
passes test None = false
passes test (Some s) = test s

-- the statement at p is of the kind of a table, and is active at `at`
abbrev pub stands : Kind → Database → ℕ → ℕ → Bool
stands table S p at = passes (kind_test table) (slice_get S (p - 1)) && is_active S p at

-- ---- the table of the `$d`, or of the `$v`

-- the positions of the statements of the table that have the symbol c and are active at `at`, from
-- the last one back
abbrev pub active_with : Kind → List Entry → ℕ → ℕ → List ℕ
active_with table es c at = positions_with es c (actives (kind_test table) (take (at - 1) (shapes_of es)))

-- the lists are the table of these statements
pub record IsTableOf (table : Kind) (es : List Entry) (lists : List (List Mention)) : Type 0 where
  pub until : AreUntil (length es) lists
  pub each : (c : ℕ) → IsListOf (kind_test table) es (shapes_of es) c (mentions_of lists c)

-- the positions are not after i
pub record IsUpTo (i : ℕ) (l : LastActive) : Type 0 where
  pub block : l.block ≤ i
  pub variable : l.variable ≤ i
  pub disjoint : l.disjoint ≤ i

-- the last active statements before each statement are earlier, and the ends of blocks tell whether
-- a statement of a table is active
pub record ArePlaced (es : List Entry) (ends : List ℕ) : Type 0 where
  pub count : length ends ≡ length es
  pub earlier : (i : ℕ) (e : Entry) → slice_get es i ≡ Some e → IsUpTo i e.last_active
  pub told : (table : Kind) (i at : ℕ) (e : Entry) → slice_get es i ≡ Some e → is_entry_of table e.kind ≡ true → i + 1 < at → at ≤ length es + 1 → is_active (shapes_of es) (i + 1) at ≡ is_open_at ends e.last_active.block at

-- the last active statements after all
pub record IsLastActive (es : List Entry) (l : LastActive) : Type 0 where
  pub opened : l.block ≡ last_active_of_kind is_open (shapes_of es)
  pub earlier : IsUpTo (length es) l

-- ---- a table while the next statement extends it

-- each mention by the next statement is above what is active at `from`
pub record IsGrown (table : Kind) (es : List Entry) (from c : ℕ) (list : List Mention) : Type 0 where
  pub mentions : IsListOf (kind_test table) es (shapes_of es) c list
  pub until : IsUntil (length es + 1) list
  pub above : (i : ℕ) (m : Mention) → slice_get list i ≡ Some m → m.position ≡ length es + 1 → positions_of (take m.beneath list) ≡ active_with table es c from

-- each list of a table is so
abbrev pub AreGrown : Kind → List Entry → ℕ → List (List Mention) → Type 0
AreGrown table es from lists = (c : ℕ) → IsGrown table es from c (mentions_of lists c)

-- the statement at `at` has a mention in the list
abbrev pub IsMentionedAt : ℕ → List Mention → Type 0
IsMentionedAt at list = (i : ℕ) × (m : Mention) × (slice_get list i ≡ Some m) × (m.position ≡ at)
