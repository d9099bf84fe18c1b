-- Rows by slot: what a put changes, and how a scan goes on.
use Rattle.file_keep.proofs.Words.{List, None, Option, Ordering, Less, Equal, Greater, Some, [], add-one, ap, arith, false, filter, is_lt, length, le_of_suc-le-suc, refl, suc, sym, take, zero, ℕ, ◌++◌, ◌+◌, ◌<◌, ◌∙◌, ◌∷◌, ◌≡◌, Row, value_cmp, Value, Int, IsTable, from_key, has_rowid, put_row, rowid, entry_at, put_at, row_at, rows_from, rows_of}
use Rattle.std.specs.Prelude.{pos, ℤ}
use Rattle.sqlite_value.specs.declared.keys.Order.{Order}
use Rattle.std.proofs.lemmas.Bool.Decides.{nat_tests}
use Rattle.sqlite_value.proofs.OrderLemmas.{value_cmp-Int}
use Rattle.sqlite_trees.proofs.ListLemmas.{filter_none}
use Rattle.sqlite_trees.proofs.TreeLemmas.{later_rowids}

-- with no key, a cursor has the whole tree left
pub from_no_key : (o : Order) (rows : List Row) → from_key o [] rows ≡ rows
from_no_key o [] = refl
from_no_key o (r ∷ rows) = refl

no_row : (row : Row) → [] ≡ row ∷ [] → ⊥
no_row row e = cc

-- a row that is there is put with no effect
pub put_same : (id : ℤ) (row : Row) (rows : List Row) → IsTable rows → rowid row ≡ Int id → filter (has_rowid id) rows ≡ row ∷ [] → put_row row rows ≡ rows
put_same id row [] table named found = cc
put_same id row (r ∷ rows) table named found = by_order (value_cmp (rowid r) (Int id)) refl (put_same id row rows table.1 named) where
  by_order : (o : Ordering) → value_cmp (rowid r) (Int id) ≡ o → (filter (has_rowid id) rows ≡ row ∷ [] → put_row row rows ≡ rows) → put_row row (r ∷ rows) ≡ r ∷ rows
  by_order Less is more = let e : filter (has_rowid id) rows ≡ row ∷ [] = rw is at found in rw (named, is) (ap (λ (t : List Row). r ∷ t) (more e))
  by_order Equal is more = let e : r ∷ filter (has_rowid id) rows ≡ row ∷ [] = rw is at found in let same : row ≡ r = cc in rw (named, is) (ap (λ (x : Row). x ∷ rows) same)
  by_order Greater is more =
      let low : is_lt (value_cmp (rowid r) (Int id)) ≡ false = rw is refl in
      let none = filter_none (has_rowid id) rows (later_rowids (Int id) r rows low table.0) in
      let e : filter (has_rowid id) rows ≡ row ∷ [] = rw is at found in
      absurd (no_row row (sym none ∙ e))

-- Rowids are ordered as numbers.

below : (a b : ℕ) → a < b → value_cmp (Int (pos a)) (Int (pos b)) ≡ Less
below a b less = value_cmp-Int (pos a) (pos b) ∙ grind (arith, nat_tests)

above : (a b : ℕ) → b < a → value_cmp (Int (pos a)) (Int (pos b)) ≡ Greater
above a b less = value_cmp-Int (pos a) (pos b) ∙ grind (arith, nat_tests)

pub alike : (a : ℕ) → value_cmp (Int (pos a)) (Int (pos a)) ≡ Equal
alike a = value_cmp-Int (pos a) (pos a) ∙ grind (arith, nat_tests)

-- a row before all rows is put first
put_first : {T : Type 0} (columns : T → List Value) (at id : ℕ) (c : List Value) (xs : List (Option T)) → id < at
    → put_row (row_at id c) (rows_from columns at xs) ≡ row_at id c ∷ rows_from columns at xs
put_first columns at id c [] low = refl
put_first columns at id c (None ∷ xs) low = put_first columns (suc at) id c xs (omega arith)
put_first columns at id c (Some x ∷ xs) low = rw (above at id low)

-- a row is put at its slot
put_in : {T : Type 0} (columns : T → List Value) (at : ℕ) (xs : List (Option T)) (s id : ℕ) (v : T) → id ≡ at + s
    → put_row (row_at id (columns v)) (rows_from columns at xs) ≡ rows_from columns at (put_at xs s v)
put_in columns at [] zero id v is = let e : id ≡ at = omega arith in rw e
put_in columns at [] (suc s) id v is = put_in columns (suc at) [] s id v (omega arith)
put_in columns at (None ∷ xs) zero id v is = let e : id ≡ at = omega arith in rw e (put_first columns (suc at) at (columns v) xs (omega arith))
put_in columns at (None ∷ xs) (suc s) id v is = put_in columns (suc at) xs s id v (omega arith)
put_in columns at (Some x ∷ xs) zero id v is = let e : id ≡ at = omega arith in rw (e, alike at)
put_in columns at (Some x ∷ xs) (suc s) id v is =
    rw (below at id (omega arith)) (ap (λ (rows : List Row). row_at at (columns x) ∷ rows) (put_in columns (suc at) xs s id v (omega arith)))

pub put_slot : {T : Type 0} (columns : T → List Value) (xs : List (Option T)) (s : ℕ) (v : T)
    → put_row (row_at s (columns v)) (rows_from columns 0 xs) ≡ rows_from columns 0 (put_at xs s v)
put_slot columns xs s v = put_in columns 0 xs s s v (omega arith)

-- the rows of the first s + 1 slots
rows_suc : {T : Type 0} (columns : T → List Value) (at : ℕ) (xs : List (Option T)) (s id : ℕ) → id ≡ at + s → s < length xs
    → rows_from columns at (take (suc s) xs) ≡ rows_from columns at (take s xs) ++ rows_of columns id (entry_at xs s)
rows_suc columns at [] s id is low = absurd (omega arith)
rows_suc columns at (None ∷ xs) zero id is low = refl
rows_suc columns at (Some x ∷ xs) zero id is low = let e : id ≡ at = omega arith in rw e
rows_suc columns at (None ∷ xs) (suc s) id is low = rows_suc columns (suc at) xs s id (omega arith) (le_of_suc-le-suc low)
rows_suc columns at (Some x ∷ xs) (suc s) id is low = ap (λ (rows : List Row). row_at at (columns x) ∷ rows) (rows_suc columns (suc at) xs s id (omega arith) (le_of_suc-le-suc low))

pub rows_more : {T : Type 0} (columns : T → List Value) (xs : List (Option T)) (s : ℕ) → s < length xs
    → rows_from columns 0 (take (s + 1) xs) ≡ rows_from columns 0 (take s xs) ++ rows_of columns s (entry_at xs s)
rows_more columns xs s low = ap (λ (n : ℕ). rows_from columns 0 (take n xs)) (add-one s) ∙ rows_suc columns 0 xs s s (omega arith) low
