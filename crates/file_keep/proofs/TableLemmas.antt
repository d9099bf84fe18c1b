-- What calls of a store keep, one after another.
use Rattle.file_keep.proofs.Words.{Bool, List, Some, [], ap, append_assoc, arith, false, refl, subst, sym, true, true≢false, ℕ, ◌==◌, ◌++◌, ◌∙◌, ◌≡◌, ◌≤◌, IsTable, Row, Trees, View, IsClean, doubt, put_row, rowid, with_tree, Int}
use Rattle.std.specs.Prelude.{Err, IsSome, IsTrue, Ok, OnOk, Result, ℤ, pos}
use Rattle.std.proofs.lemmas.Bool.{eqb-true}
use Rattle.sqlite_trees.specs.Tree.{from_key, order_of, sought}
use Rattle.sqlite_trees.specs.declared.store.Direction.TheVariants.{Forward}
use Rattle.sqlite_trees.specs.View.{with_cursor, Finds, IsOrdered, IsQuiet, IsShaped, KeepsSchema, SetsTree}
use Rattle.sqlite_trees.specs.declared.error.StoreError.{StoreError}
use Rattle.sqlite_trees.specs.declared.store.Shape.{Shape}
use Rattle.sqlite_trees.specs.declared.store.Shape.TheVariants.{Table}
use Rattle.file_keep.proofs.RowLemmas.{from_no_key, put_same}
use Rattle.file_keep.specs.Tables.{Gives, HasTrees, Keeps, PutsRow, Scans}

pub has_trees : (old new : View) → KeepsSchema old new → HasTrees old → HasTrees new
has_trees old new schema has = record {
  accepted = ap (λ (f : ℕ → _). f 0) schema.shape ∙ has.accepted;
  texts = ap (λ (f : ℕ → _). f 1) schema.shape ∙ has.texts;
  node = ap (λ (f : ℕ → _). f 2) schema.shape ∙ has.node;
  committed = schema.shape ∙ has.committed ∙ sym schema.committed_shape;
}

some_same : {A : Type 0} {x y : A} → Some x ≡ Some y → x ≡ y
some_same e = cc

module _ {S : Type 0} {view : S → View} {recovers : S → Trees → Type 0} where
  pub keeps_itself : (a : S) → Keeps view recovers a a
  keeps_itself a = record { clean = omega arith; trees = λ _ has. has; outcomes = λ db left. left }

  pub keeps_more : (a b c : S) → Keeps view recovers a b → Keeps view recovers b c → Keeps view recovers a c
  keeps_more a b c first second = record {
    clean = omega arith;
    trees = λ clean has. second.trees clean (first.trees (omega arith) has);
    outcomes = λ db left. first.outcomes db (second.outcomes db left);
  }

  pub keeps_quiet : (faults : S → ℕ) (Shielded : S → Type 0) (a b : S) → KeepsSchema (view a) (view b) → IsQuiet view faults recovers Shielded a b → Keeps view recovers a b
  keeps_quiet faults Shielded a b schema quiet = record {
    clean = quiet.clean;
    trees = λ _ has. has_trees (view a) (view b) schema has;
    outcomes = quiet.outcomes;
  }

  -- a scan begins
  pub began : (result : Result (Unit {0}) StoreError) (a b : S) (tree : ℕ) (key : Row) → key ≡ [] → Keeps view recovers a b → OnOk result (IsSome ((view b).cursors 0))
      → OnOk result (IsClean (view b) → view b ≡ with_cursor (view a) 0 (sought (order_of ((view a).shape tree)) Forward key ((view a).trees tree)))
      → OnOk result (IsClean (view b) → (view a).is_broken ≡ false) → OnOk result (Scans view recovers a b tree [])
  began (Err e) a b tree key none keeps live ok sound = tt
  began (Ok u) a b tree key none keeps live ok sound = record {
    live = live;
    keeps = keeps;
    sound = λ clean. ap (λ (v : View). v.is_broken) (ok clean) ∙ sound clean;
    same = λ clean. ap (λ (v : View). v.trees) (ok clean);
    left = λ clean. (
      (view a).trees tree,
      ap (λ (v : View). v.cursors 0) (ok clean)
          ∙ ap (λ (k : Row). Some (from_key (order_of ((view a).shape tree)) k ((view a).trees tree))) none
          ∙ ap (λ (rows : List Row). Some rows) (from_no_key (order_of ((view a).shape tree)) ((view a).trees tree)),
      refl,
    );
  }

  -- a scan goes on by the rows that the cursor gives
  pub scans_more : (a b c : S) (tree : ℕ) (given rows : List Row) → Scans view recovers a b tree given → Keeps view recovers b c → IsSome ((view c).cursors 0)
      → (IsClean (view c) → Gives (view b) (view c) rows) → Scans view recovers a c tree (given ++ rows)
  scans_more a b c tree given rows scans keeps live gives = record {
    live = live;
    keeps = keeps_more a b c scans.keeps keeps;
    sound = λ clean. (gives clean).sound ∙ scans.sound (omega arith);
    same = λ clean. (gives clean).same ∙ scans.same (omega arith);
    left = λ clean.
        let was = scans.left (omega arith) in
        let now = gives clean in
        let e : was.0 ≡ rows ++ now.left = some_same {A = List Row} (sym was.1 ∙ now.before) in
        (now.left, now.after, was.2 ∙ ap (λ (t : List Row). given ++ t) e ∙ sym (append_assoc given rows now.left));
  }

-- Rows that are put.

-- a tree that is set to what it was is as it was
same_tree : (trees : Trees) (tree : ℕ) (rows : List Row) (t : ℕ) → rows ≡ trees tree → with_tree trees tree rows t ≡ trees t
same_tree trees tree rows t is = by_test (t == tree) refl where
  by_test : (b : Bool) → (t == tree) ≡ b → with_tree trees tree rows t ≡ trees t
  by_test true e = rw e (is ∙ ap (λ (n : ℕ). trees n) (sym (eqb-true t tree e)))
  by_test false e = rw e

is_table : (v : View) (tree : ℕ) → IsOrdered v.shape v.trees → v.shape tree ≡ Table → IsTable (v.trees tree)
is_table v tree ordered shaped = let h : IsShaped Table (v.trees tree) = subst (λ (s : Shape). IsShaped s (v.trees tree)) shaped (ordered tree) in h.0

-- the row is there
pub put_found : (v w : View) (tree id : ℕ) (row : Row) → v.is_broken ≡ false → IsOrdered v.shape v.trees → v.shape tree ≡ Table → w ≡ v
    → rowid row ≡ Int (pos id) → Finds (v.trees tree) (pos id) row true → PutsRow v w tree row
put_found v w tree id row sound ordered shaped is named found = record {
  sound = ap (λ (u : View). u.is_broken) is ∙ sound;
  put = λ t. ap (λ (u : View). u.trees t) is ∙ sym (same_tree v.trees tree (put_row row (v.trees tree)) t (put_same (pos id) row (v.trees tree) (is_table v tree ordered shaped) named found));
}

-- the row is put after a read
pub put_written : (v m w : View) (tree : ℕ) (row : Row) → m ≡ v → SetsTree m w tree (put_row row) → PutsRow v w tree row
put_written v m w tree row is sets = subst (λ (u : View). PutsRow u w tree row) is (record {
  sound = ap (λ (u : View). u.is_broken) sets.is ∙ sets.sound;
  put = λ t. ap (λ (u : View). u.trees t) sets.is;
})

-- Commits.

-- a store that is not broken is open
pub open_if_sound : (v : View) → (v.is_open ≡ false → IsTrue v.is_broken) → v.is_broken ≡ false → IsTrue v.is_open
open_if_sound v law sound = by_case v.is_open refl where
  by_case : (b : Bool) → v.is_open ≡ b → IsTrue v.is_open
  by_case true e = e
  by_case false e = absurd (true≢false (sym (law e) ∙ sound))

-- Reads.

pub finds_at : (rows : List Row) (i j : ℤ) (x y : Row) (found : Bool) → i ≡ j → x ≡ y → found ≡ true → Finds rows i x found → Finds rows j y true
finds_at rows i j x y found same_id same_row is finds =
    let at_id : Finds rows j x found = subst (λ (k : ℤ). Finds rows k x found) same_id finds in
    let at_row : Finds rows j y found = subst (λ (r : Row). Finds rows j r found) same_row at_id in
    subst (λ (b : Bool). Finds rows j y b) is at_row

pub put_after : (result : Result (Unit {0}) StoreError) (v m w : View) (tree : ℕ) (row : Row) → (IsClean m → m ≡ v) → doubt m.is_clean ≤ doubt w.is_clean
    → OnOk result (IsClean w → SetsTree m w tree (put_row row)) → OnOk result (IsClean w → PutsRow v w tree row)
put_after (Ok u) v m w tree row same clean ok = λ h. put_written v m w tree row (same (omega arith)) (ok h)
put_after (Err e) v m w tree row same clean ok = tt
