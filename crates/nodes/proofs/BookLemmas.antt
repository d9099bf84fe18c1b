-- The exchange that adds a moment keeps the rule of the book.
use Rattle.std.proofs.Common.{◌≡◌, ◌≢◌, ℕ, ◌+◌, ◌<◌, ◌==◌, Bool, true, false, List, [], ◌∷◌, ◌++◌, length, None, slice_set, replicate, refl, ap, sym, ◌∙◌, subst, arith, inl, get_or-set_other}
use Rattle.std.proofs.lemmas.Grind.{get_or-set_at}
use Rattle.std.proofs.lemmas.List.{append-nil, get_or-replicate, length-replicate, length-set}
use Rattle.std.proofs.lemmas.Bool.Decides.{nat_tests}
use prog.Atomic.{either}
use Rattle.logbook.specs.Pages.{Cell, cell, keeps, no_nib, step, Moves, Goes}
use Rattle.net.specs.Agree.{IsPrefixOf}
use Rattle.nodes.specs.declared.moment.Moment.{Moment}
use Rattle.nodes.specs.Words.{Carried, SwitchView}
use Rattle.nodes.specs.Moments.{lock_of, count_of, lock_count, IsSwitchAt}
use Rattle.nodes.specs.Runs.{IsRun}
use Rattle.nodes.specs.Book.{IsKept, Adds, MayAdd}
use Rattle.nodes.proofs.MomentLemmas.{count-own, count-other}

abbrev pub shown : List Moment → List Moment
shown log = []

abbrev pub moved : List Moment → List Moment → ℕ → Type 0
moved xs ys n = Unit {0}

-- the words once that of one lock is set
words_set : (cs : List Cell) (log : List Moment) (key n : ℕ) → key < length cs → n ≡ count_of key log
    → ((j : ℕ) → j < length cs → (key == j) ≡ false → cell cs j ≡ (count_of j log, true))
    → (j : ℕ) → j < length cs → cell (slice_set cs key (n, true)) j ≡ (count_of j log, true)
words_set cs log key n in_range is others j low = by_test (key == j) refl where
  by_test : (t : Bool) → (key == j) ≡ t → cell (slice_set cs key (n, true)) j ≡ (count_of j log, true)
  by_test true same =
      let at : j ≡ key = grind (arith, nat_tests) in
      get_or-set_at cs key j (n, true) (0, false) at in_range ∙ (let e : n ≡ count_of j log = is ∙ ap (λ (i : ℕ). count_of i log) (sym at) in ap (λ (i : ℕ). (i, true)) e)
  by_test false other =
      let apart : j ≢ key = λ e. (let no : false ≡ true = sym other ∙ (let same : (key == j) ≡ true = grind (arith, nat_tests, e) in same) in cc) in
      get_or-set_other cs key j (n, true) (0, false) apart ∙ others j low other

module _ (cs : List Cell) (log v : List Moment) (m : Moment) (key old : ℕ) (is_lock : lock_of m ≡ key) (may : MayAdd v key old m) (kept : IsKept cs log) (pre : IsPrefixOf v log) (in_range : key < length cs) where
  found : (cell cs key).0 ≡ count_of key log
  found = ap (λ (c : Cell). c.0) (kept.words key in_range)

  abbrev Result : Type 0
  Result = Goes IsKept shown moved key (v, (no_nib, None)) (λ n. either (n == old) (old + 1) n) (Adds (step key old (old + 1) m) (v, (no_nib, None))) cs log

  kept_more : count_of key log ≡ old → IsKept (slice_set cs key (old + 1, true)) (log ++ m ∷ [])
  kept_more same =
      let same_length : length (slice_set cs key (old + 1, true)) ≡ length cs = length-set cs key (old + 1, true) in
      record {
        size = same_length ∙ kept.size;
        words = λ j low. words_set cs (log ++ m ∷ []) key (old + 1) in_range
            (let own = count-own key log m is_lock in omega (arith, own, same))
            (λ i below other. kept.words i below ∙ ap (λ (n : ℕ). (n, true)) (sym (count-other i log m (ap (λ (n : ℕ). n == i) is_lock ∙ other))))
            j (subst (λ (n : ℕ). j < n) same_length low);
        run = may log pre kept.run same;
      }

  kept_same : (n : ℕ) → n ≡ count_of key log → IsKept (slice_set cs key (n, true)) (log ++ [])
  kept_same n is =
      let all : log ++ [] ≡ log = append-nil log in
      let same_length : length (slice_set cs key (n, true)) ≡ length cs = length-set cs key (n, true) in
      subst (λ (ms : List Moment). IsKept (slice_set cs key (n, true)) ms) (sym all)
      record {
        size = same_length ∙ kept.size;
        words = λ j low. words_set cs log key n in_range is (λ i below other. kept.words i below) j (subst (λ (n : ℕ). j < n) same_length low);
        run = kept.run;
      }

  goes : (b : Bool) → ((cell cs key).0 == old) ≡ b → Result
  goes true test =
      let same : count_of key log ≡ old = (let e : (cell cs key).0 ≡ old = grind (arith, nat_tests) in sym found ∙ e) in
      let n : either ((cell cs key).0 == old) (old + 1) (cell cs key).0 ≡ old + 1 = rw test in (
        keeps,
        m ∷ [],
        None,
        tt,
        subst (λ (i : ℕ). IsKept (slice_set cs key (i, true)) (log ++ m ∷ [])) (sym n) (kept_more same),
        inl (refl, refl),
        rw test (record { before = log; later = pre; counted = same; is = refl }, may log pre kept.run same),
      )
  goes false test =
      let all : log ++ [] ≡ log = append-nil log in
      let n : either ((cell cs key).0 == old) (old + 1) (cell cs key).0 ≡ (cell cs key).0 = rw test in (
        keeps,
        [],
        None,
        tt,
        subst (λ (i : ℕ). IsKept (slice_set cs key (i, true)) (log ++ [])) (sym n) (kept_same (cell cs key).0 found),
        inl (refl, refl),
        rw test (subst IsRun (sym all) kept.run),
      )

pub adds_moves : (v : List Moment) (m : Moment) (key old : ℕ) → lock_of m ≡ key → key < lock_count → MayAdd v key old m
    → Moves IsKept shown moved key (v, (no_nib, None)) (λ n. either (n == old) (old + 1) n) (Adds (step key old (old + 1) m) (v, (no_nib, None)))
adds_moves v m key old is_lock in_range may cs log kept pre away =
    let low : key < length cs = omega (arith, kept.size, in_range) in
    (low, ap (λ (c : Cell). c.1) (kept.words key low), goes cs log v m key old is_lock may kept pre low ((cell cs key).0 == old) refl)

-- a book with words that hold 0, and an empty history
pub kept_new : (n : ℕ) → n ≡ lock_count → IsKept (replicate n (0, true)) []
kept_new n is = record {
  size = length-replicate n (0, true) ∙ is;
  words = λ key low. get_or-replicate n key (0, true) (0, false) (subst (λ (k : ℕ). key < k) (length-replicate n (0, true)) low);
  run = record {
    taken = λ s at. cc;
    idle = λ s at. cc;
    goes_on = λ early s pre at. absurd (none early s pre at);
    learned = λ k c at. cc;
  };
} where
  none : (early : List Moment) (s : SwitchView Carried) → IsPrefixOf early [] → IsSwitchAt early s → ⊥
  none [] s pre at = cc
  none (m ∷ ms) s pre at = let no = pre.1 in cc
