-- The invariant of a cell: its entries are within the limit, and its library is that of the first
-- of them.
use Rattle.cluster.proofs.Words.{◌≡◌, ℕ, ◌<◌, Bool, true, false, List, [], ◌∷◌, ◌++◌, length, slice_get, Option, Some, None, Result, Ok, Err, refl, ap, sym, subst, arith, length-append, IsSome, option_map, Bor, SLOTS, Verdict, Carried, StepFault, entry_of, entries_of, NodeLibrary, AppliesNext, entries_begin, entries_of-get, entries_of-none, of_longer, of_log_applied, limit-applied, IsOfLog, Cell, IsCell, AddsEntry, next_entry, Entry}

-- the cell as a call sees it
abbrev pub cell : ℕ → List (Option Carried) → NodeLibrary → Cell
cell k entries node = record { node = k; entries = entries; node_library = node }

-- An entry is taken over.

module _ (k : ℕ) (node : NodeLibrary) (old new : List (Option Carried)) (h : IsCell (cell k old node)) where
  -- with one more entry, if there is room for it, it is a cell
  one_more : (entry : Option Carried) → length old < SLOTS → new ≡ old ++ entry ∷ [] → IsCell (cell k new node)
  one_more entry low is = record {
    few = let count = ap (λ (es : List (Option Carried)). length es) is in omega (arith, low, count, length-append old (entry ∷ []));
    of_entries = of_longer node.library.limit (entries_of old) (entries_of new) node (entries_begin old new (entry ∷ [], sym is)) h.of_entries;
  }

  -- with the same entries it is a cell
  as_before : new ≡ old → IsCell (cell k new node)
  as_before is = subst (λ (es : List (Option Carried)). IsCell (cell k es node)) (sym is) h

  -- whatever the answer, it is a cell afterwards
  pub stays_cell : (next : Option (Option Carried)) (result : Result Bool StepFault) → (IsSome next → length old < SLOTS) → AddsEntry old new next result → IsCell (cell k new node)
  stays_cell (Some entry) (Ok true) below adds = one_more entry (below refl) adds
  stays_cell (Some entry) (Ok false) below adds = elim adds [ ]
  stays_cell (Some entry) (Err fault) below adds = as_before adds.1
  stays_cell None (Ok true) below adds = elim adds [ ]
  stays_cell None (Ok false) below adds = as_before adds
  stays_cell None (Err fault) below adds = elim adds [ ]

-- if an entry is found, the next slot is below the limit
pub below_some : (found : Option (Bor (Option Carried))) (n m : ℕ) → (IsSome found → n < SLOTS) → n ≡ m → IsSome (option_map (λ (e : Bor (Option Carried)). e.now) found) → m < SLOTS
below_some None n m below is some = let no : false ≡ true = some in cc
below_some (Some e) n m below is some = let low = below refl in omega (arith, low, is)

-- An entry is applied.

-- the value found at a slot is, without the wrapping, the entry at this slot
pub entry_is : (vs : List (Option Carried)) (slot : ℕ) (found : Option (Bor (Option Carried))) → option_map (λ (e : Bor (Option Carried)). e.now) found ≡ slice_get vs slot → slice_get (entries_of vs) slot ≡ option_map (λ (e : Bor (Option Carried)). entry_of e.now) found
entry_is vs slot None is = entries_of-none vs slot (sym is)
entry_is vs slot (Some e) is = entries_of-get vs slot e.now (sym is)

-- whatever the answer, the cell with the library afterwards is a cell
pub applied_cell : (k : ℕ) (entries : List (Option Carried)) (old new : NodeLibrary) → IsCell (cell k entries old) → (next : Option (Option Entry)) → slice_get (entries_of entries) old.applied ≡ next
    → (result : Result (Option Verdict) StepFault) → AppliesNext old new next result → IsCell (cell k entries new)
applied_cell k entries old new h None at (Ok None) applies = subst (λ (n : NodeLibrary). IsCell (cell k entries n)) (sym applies) h
applied_cell k entries old new h None at (Ok (Some verdict)) applies = elim applies [ ]
applied_cell k entries old new h None at (Err fault) applies = elim applies [ ]
applied_cell k entries old new h (Some entry) at (Ok None) applies = elim applies [ ]
applied_cell k entries old new h (Some entry) at (Ok (Some verdict)) applies = record {
  few = h.few;
  of_entries = subst (λ (limit : Option ℕ). IsOfLog limit (entries_of entries) new) (sym (limit-applied old.library entry verdict new.library applies.0))
      (of_log_applied old.library.limit (entries_of entries) old entry verdict new h.of_entries at applies.0 applies.1);
}
applied_cell k entries old new h (Some entry) at (Err fault) applies = subst (λ (n : NodeLibrary). IsCell (cell k entries n)) (sym applies.1) h

-- the call applies the next entry of the cell, in terms of its view
pub applied_seen : (k : ℕ) (entries : List (Option Carried)) (old new : NodeLibrary) (seen : Cell) → cell k entries old ≡ seen → (next : Option (Option Entry)) → slice_get (entries_of entries) old.applied ≡ next
    → (result : Result (Option Verdict) StepFault) → AppliesNext old new next result → AppliesNext seen.node_library new (next_entry seen) result
applied_seen k entries old new seen is next at result applies =
    subst (λ (c : Cell). AppliesNext c.node_library new (next_entry c) result) is (subst (λ (o : Option (Option Entry)). AppliesNext old new o result) (sym at) applies)
