-- The relation between cells and switch: what follows from it, and how a call preserves it.
use Rattle.cluster.proofs.Words.{◌≡◌, ℕ, suc, ◌<◌, ◌≤◌, nat_lt, Bool, true, false, List, [], ◌∷◌, ◌++◌, length, slice_get, Option, Some, None, Result, Ok, Err, refl, ap, sym, ◌∙◌, subst, arith, append_assoc, IsOk, MatchOption, is_err, option_map, Bor, nat_tests, StepFault, NoNode, log_after, IsPrefixOf, SwitchView, world_of, IsLogPrefix, Carried, carried_size, NodeLibrary, Cell, new_cell, work_limit_of, AddsEntry, TakesOver, Belongs}

-- A log, as a switch shows it.

-- the value shown for a slot is the entry of the log at this slot, or None
pub shown_is : (log : List (Option Carried)) (slot : ℕ) (found : Option (Bor (Option Carried))) → MatchOption found (slice_get log slot ≡ None) (λ (e : Bor (Option Carried)). slice_get log slot ≡ Some e.now)
    → option_map (λ (e : Bor (Option Carried)). e.now) found ≡ slice_get log slot
shown_is log slot None h = sym h
shown_is log slot (Some e) h = sym h

-- The cell of a node that restarted.
pub restarted_belongs : (old new : Cell) (was now : SwitchView Carried) → new ≡ new_cell (work_limit_of old) old.node → length now.stores ≡ length was.stores → Belongs old was → Belongs new now
restarted_belongs old new was now is count b = subst (λ (c : Cell). Belongs c now) (sym is) record {
  node = let low = b.node in omega (arith, low, count);
  begins = (log_after (world_of carried_size now) old.node, refl);
}

-- One more entry is taken over.

-- the element at index `length xs` of xs followed by `rest` is the first of `rest`
get_past : {A : Type 0} (xs rest : List A) (x : A) → slice_get (xs ++ rest) (length xs) ≡ Some x → (more : List A) × (rest ≡ x ∷ more)
get_past [] [] x is = cc
get_past [] (y ∷ more) x is = let same : y ≡ x = cc in (more, ap (λ z. z ∷ more) same)
get_past (y ∷ xs) rest x is = get_past xs rest x is

-- a prefix of a list followed by the next element of the list is a prefix
one_more_begins : {A : Type 0} (xs ys : List A) (x : A) → IsPrefixOf xs ys → slice_get ys (length xs) ≡ Some x → IsPrefixOf (xs ++ x ∷ []) ys
one_more_begins {A} xs ys x h at =
    let rest = get_past xs h.0 x (ap (λ (zs : List A). slice_get zs (length xs)) h.1 ∙ at) in
    (rest.0, append_assoc xs (x ∷ []) rest.0 ∙ ap (λ (zs : List A). xs ++ zs) (sym rest.1) ∙ h.1)

module _ (s : SwitchView Carried) (k : ℕ) (old new : List (Option Carried)) (b : IsLogPrefix carried_size s k old) where
  -- entries that stay the same are a prefix of the log
  as_begun : new ≡ old → IsLogPrefix carried_size s k new
  as_begun is = subst (λ (es : List (Option Carried)). IsLogPrefix carried_size s k es) (sym is) b

  -- whatever the answer, the entries afterwards are a prefix of the log
  pub taken_belongs : (next : Option (Option Carried)) (result : Result Bool StepFault) (slot : ℕ) → slot ≡ length old → next ≡ slice_get (log_after (world_of carried_size s) k) slot → AddsEntry old new next result → IsLogPrefix carried_size s k new
  taken_belongs (Some entry) (Ok true) slot is shows adds = record {
    node = b.node;
    begins = subst (λ (es : List (Option Carried)). IsPrefixOf es (log_after (world_of carried_size s) k)) (sym adds)
        (one_more_begins old (log_after (world_of carried_size s) k) entry b.begins (ap (λ (i : ℕ). slice_get (log_after (world_of carried_size s) k) i) (sym is) ∙ sym shows));
  }
  taken_belongs (Some entry) (Ok false) slot is shows adds = elim adds [ ]
  taken_belongs (Some entry) (Err fault) slot is shows adds = as_begun adds.1
  taken_belongs None (Ok true) slot is shows adds = elim adds [ ]
  taken_belongs None (Ok false) slot is shows adds = as_begun adds
  taken_belongs None (Err fault) slot is shows adds = elim adds [ ]

-- The next entry of the log.

abbrev cell_of : ℕ → List (Option Carried) → NodeLibrary → Cell
cell_of k entries node = record { node = k; entries = entries; node_library = node }

-- the cell takes over the next entry of its node's log, as the switch shows it
pub takes_over : (s : SwitchView Carried) (k : ℕ) (node : NodeLibrary) (es : List (Option Carried)) (now : Cell) → cell_of k es node ≡ now → (fs : List (Option Carried)) (found : Option (Bor (Option Carried))) (slot : ℕ) → slot ≡ length es
    → MatchOption found (slice_get (log_after (world_of carried_size s) k) slot ≡ None) (λ (e : Bor (Option Carried)). slice_get (log_after (world_of carried_size s) k) slot ≡ Some e.now)
    → (result : Result Bool StepFault) → AddsEntry es fs (option_map (λ (e : Bor (Option Carried)). e.now) found) result
    → TakesOver now (cell_of k fs node) (slice_get (log_after (world_of carried_size s) now.node) (length now.entries)) result
takes_over s k node es now seen fs found slot is shown result adds =
    let next = shown_is (log_after (world_of carried_size s) k) slot found shown ∙ ap (λ (i : ℕ). slice_get (log_after (world_of carried_size s) k) i) is in
    subst (λ (c : Cell). TakesOver c (cell_of k fs node) (slice_get (log_after (world_of carried_size s) c.node) (length c.entries)) result) seen
    (subst (λ (o : Option (Option Carried)). TakesOver (cell_of k es node) (cell_of k fs node) o result) next record { adds = adds; rest = refl })

-- Entries found one by one.

-- if ys has each element of xs at the same index, xs is a prefix of ys
pub all_found : {A : Type 0} (xs ys : List A) → ((i : ℕ) → i < length xs → slice_get ys i ≡ slice_get xs i) → IsPrefixOf xs ys
all_found [] ys each = (ys, refl)
all_found (x ∷ xs) [] each = let no : None ≡ Some x = each 0 (omega arith) in cc
all_found {A} (x ∷ xs) (y ∷ ys) each =
    let first : Some y ≡ Some x = each 0 (omega arith) in
    let same : y ≡ x = cc in
    let rest = all_found xs ys (λ i low. each (suc i) (omega (arith, low))) in
    (rest.0, ap (λ (z : A). z ∷ (xs ++ rest.0)) (sym same) ∙ ap (λ (zs : List A). y ∷ zs) rest.1)

-- A result that is not an error is Ok.
pub no_err : {A E : Type 0} (r : Result A E) → is_err r ≡ false → IsOk r
no_err (Ok x) e = refl
no_err (Err f) e = cc

pub err_ok : {A E : Type 0} (r : Result A E) (fault : E) → r ≡ Err fault → IsOk r → ⊥
err_ok (Ok x) fault is ok = cc
err_ok (Err f) fault is ok = let no : false ≡ true = ok in cc

pub no_ok : {A E : Type 0} (r : Result A E) → is_err r ≡ true → IsOk r → ⊥
no_ok (Ok x) e ok = let no : false ≡ true = e in cc
no_ok (Err f) e ok = let no : false ≡ true = ok in cc

-- a number for which the answer is no fault is that of a node
pub in_switch : {A : Type 0} (k n : ℕ) (r : Result A StepFault) → IsOk r → (n ≤ k → r ≡ Err NoNode) → k < n
in_switch k n r ok past = by_test (nat_lt k n) refl where
  by_test : (t : Bool) → nat_lt k n ≡ t → k < n
  by_test true test = grind (arith, nat_tests)
  by_test false test = absurd (err_ok r NoNode (past (grind (arith, nat_tests))) ok)
