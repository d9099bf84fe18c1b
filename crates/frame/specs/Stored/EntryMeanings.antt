-- The meaning of an entry, and of the entries for the number of a symbol.
-- Internal to the code: no public clause cites it.
use Rattle.std.specs.Prelude.{◌≡◌, ℕ, ◌+◌, ◌<◌, ◌==◌, Bool, true, false, ◌&&◌, if◌then◌else◌, List, [], ◌∷◌, length, map, slice_get, Option, Some, None}
use Rattle.frame.specs.Words.{Name, Stmt, Expr, Database, stmt_at, before, label_of, declared_symbols, declared_labels, name_at, decode, Kind, Open, Close, Const, Var, Disj, Float, Ess, Axiom, Prove, Entry, Mention, mentions_of, IsLegal, AreVariableNumbers, symbols_after}
use Rattle.mm_read.specs.declared.stmt.Stmt.TheVariants as stmt
use Rattle.frame.specs.declared.storage.Storage.{Storage}
use Rattle.frame.specs.Parts.{Numbered}

-- a statement by its kind, its label and its names
abbrev pub stmt_by : Kind → Name → Expr → Stmt
stmt_by Open label names = stmt.Open
stmt_by Close label names = stmt.Close
stmt_by Const label names = stmt.Const names
stmt_by Var label names = stmt.Var names
stmt_by Disj label names = stmt.Disj names
stmt_by Float label names = stmt.Float label (name_at names 0) (name_at names 1)
stmt_by Ess label names = stmt.Ess label names
stmt_by Axiom label names = stmt.Axiom label names
stmt_by Prove label names = stmt.Prove label names []

-- the statement that an entry stands for
abbrev pub stmt_of : List Name → List Name → Entry → Stmt
stmt_of names labels e = stmt_by e.kind (name_at labels e.label_count) (decode names e.symbols)

-- the symbols of a storage, by number
abbrev pub names_in : Storage → List Name
names_in k = declared_symbols k.numbering

-- the labels of a storage, by number
abbrev pub labels_in : Storage → List Name
labels_in k = declared_labels k.numbering

-- the statements of a storage
abbrev pub statements_of : Storage → Database
statements_of k = map (stmt_of (names_in k) (labels_in k)) k.entries

-- statements of the same kinds, without names
abbrev pub shapes_of : List Entry → Database
shapes_of es = map (λ e. stmt_by e.kind [] []) es

-- the statements of a storage, and the names of its symbols
abbrev pub numbered : Storage → Numbered
numbered k = record { statements = statements_of k; names = names_in k }

-- the first entry of `new` after those of `old` has the numbers of the variables that the statement
-- s declares or gives a type
abbrev pub HasVariableNumbers : Storage → Stmt → Storage → Type 0
HasVariableNumbers old s new = (e : Entry) → slice_get new.entries (length old.entries) ≡ Some e → AreVariableNumbers (symbols_after (statements_of old) s) s e.symbols

-- the position of a statement, before these positions, if it has a label
abbrev pub option_position : {A : Type 0} → Option A → ℕ → List ℕ → List ℕ
option_position None at ps = ps
option_position (Some x) at ps = at ∷ ps

-- the positions of the statements that have labels, in order, if the first statement is at `at`
abbrev pub positions_from : ℕ → Database → List ℕ
positions_from at [] = []
positions_from at (s ∷ S) = option_position (label_of s) at (positions_from (at + 1) S)

-- each statement is legal after the earlier ones
abbrev pub AreAllLegal : Database → Type 0
AreAllLegal S = (j : ℕ) (s : Stmt) → stmt_at S j ≡ Some s → IsLegal (before S j) s

-- ---- the `$f` of a symbol, by its number

-- a `$f`
abbrev pub is_float_kind : Kind → Bool
is_float_kind Float = true
is_float_kind kind = false

-- the second number of the list is c
abbrev pub second_is : ℕ → List ℕ → Bool
second_is c (x ∷ y ∷ codes) = c == y
second_is c codes = false

-- the entry is a `$f` whose variable is c
abbrev pub is_float_with : ℕ → Entry → Bool
is_float_with c e = is_float_kind e.kind && second_is c e.symbols

-- the mention by a `$f` at a position
abbrev pub float_mention : ℕ → Mention
float_mention at = record { position = at; beneath = 0 }

-- the mentions of the symbol c by the `$f` whose variable it is, if the first entry is at `at`
abbrev pub floats_from : ℕ → ℕ → List Entry → List Mention
floats_from c at [] = []
floats_from c at (e ∷ es) = if is_float_with c e then float_mention at ∷ floats_from c (at + 1) es else floats_from c (at + 1) es

-- the lists have, for each symbol, the `$f` whose variable it is
abbrev pub AreFloatsOf : List Entry → List (List Mention) → Type 0
AreFloatsOf es lists = (c : ℕ) → mentions_of lists c ≡ floats_from c 1 es

-- p is the position of the last `$f` whose variable is c, if the first entry is at `at`
pub record IsLastFloat (c at : ℕ) (es : List Entry) (p : ℕ) : Type 0 where
  pub place : ℕ
  pub entry : Entry
  pub found : slice_get es place ≡ Some entry
  pub passes : is_float_with c entry ≡ true
  pub is : p ≡ at + place
  pub last : (j : ℕ) (x : Entry) → place < j → slice_get es j ≡ Some x → is_float_with c x ≡ false
