-- The answer of a call that applies the next entry of a node's log.
use Rattle.world.proofs.Words.{◌≡◌, ℕ, List, set, slice_get, Option, Some, None, Result, Ok, Err, refl, ap, sym, ◌∙◌, subst, IfOk, IfSome, IsSomeAnd, MatchOption, option_map, Bor, Entry, Verdict, Carried, StepFault, log, entry_of, entries_of, NodeLibrary, WorldView, log_entries, IsOfLog, AreLibrariesOfLogs, AppliesNext, next_of, next_entry, IsApplied, set_same}
use Rattle.world.proofs.EntryLogs.{entries_of-get, entries_of-none}
use Rattle.world.proofs.WorldViewLemmas.{of_log_applied, applied_are_libraries}

-- the entry found at a slot of a log of values is the one at the same index of the log of entries
pub entry_next : (log : List (Option Carried)) (s t : ℕ) (found : Option (Bor (Option Carried))) → t ≡ s
    → MatchOption found (slice_get log t ≡ None) (λ (e : Bor (Option Carried)). slice_get log t ≡ Some e.now)
    → option_map (λ (e : Bor (Option Carried)). entry_of e.now) found ≡ slice_get (entries_of log) s
entry_next log s t None at h = sym (ap (λ (i : ℕ). slice_get (entries_of log) i) (sym at) ∙ entries_of-none log t h)
entry_next log s t (Some e) at h = sym (ap (λ (i : ℕ). slice_get (entries_of log) i) (sym at) ∙ entries_of-get log t e.now h)

-- The answer of a call that applies the next entry at node k: `node` is its library before, `next`
-- after.

module _ (old : WorldView) (k : ℕ) (node next : NodeLibrary) (result : Result (Option Verdict) StepFault) (is : slice_get old.libraries k ≡ Some node)
    (from : AppliesNext node next (slice_get (log_entries old.history k) node.applied) result) where
  abbrev becomes : WorldView
  becomes = record { history = old.history; work_limit = old.work_limit; libraries = set old.libraries k next }

  -- the next entry for the library of node k is that of the world
  next_at : slice_get (log_entries old.history k) node.applied ≡ next_entry old k
  next_at = sym (ap (λ (o : Option NodeLibrary). next_of (log_entries old.history k) o) is)

  -- the library changes as the next entry of the world requires
  applies : AppliesNext node next (next_entry old k) result
  applies = subst (λ (o : Option (Option Entry)). AppliesNext node next o result) next_at from

  -- if the library stays the same, the world does
  unmoved : next ≡ node → becomes ≡ old
  unmoved same = ap (λ (ls : List NodeLibrary). let r : WorldView = record { history = old.history; work_limit = old.work_limit; libraries = ls } in r) (ap (λ (l : NodeLibrary). set old.libraries k l) same ∙ set_same old.libraries k node is)

  -- if there is an entry and the call returns a verdict, the entry is applied at node k
  applied_at : (o : Option (Option Entry)) (r : Result (Option Verdict) StepFault) → AppliesNext node next o r → IfSome o (λ entry. IfOk r (λ answer. IsSomeAnd answer (λ verdict. IsApplied old k entry verdict becomes)))
  applied_at None r h = tt
  applied_at (Some entry) (Err fault) h = tt
  applied_at (Some entry) (Ok None) h = elim h [ ]
  applied_at (Some entry) (Ok (Some verdict)) h = record {
    old_node_library = node;
    new_library = next.library;
    old_is = is;
    applies = h.0;
    becomes = ap (λ (n : ℕ). let r : WorldView = record { history = old.history; work_limit = old.work_limit; libraries = set old.libraries k (record { applied = n; library = next.library }) } in r) h.1;
  }

  -- if there is a next entry and the call returns a verdict, the entry is applied at node k
  pub call_applies : IfSome (next_entry old k) (λ entry. IfOk result (λ answer. IsSomeAnd answer (λ verdict. IsApplied old k entry verdict becomes)))
  call_applies = applied_at (next_entry old k) result applies

  -- if there is no entry, the call returns None and the world stays the same
  none_at : (o : Option (Option Entry)) (r : Result (Option Verdict) StepFault) → AppliesNext node next o r → o ≡ None → (r ≡ Ok None) × (becomes ≡ old)
  none_at None (Ok None) h missing = (refl, unmoved h)
  none_at None (Ok (Some verdict)) h missing = elim h [ ]
  none_at None (Err fault) h missing = elim h [ ]
  none_at (Some entry) r h missing = cc

  -- if there is no next entry, the call returns None and the world stays the same
  pub call_none : next_entry old k ≡ None → (result ≡ Ok None) × (becomes ≡ old)
  call_none missing = none_at (next_entry old k) result applies missing

  -- whatever the answer, the library is that of the first entries of the log
  of_log_at : (o : Option (Option Entry)) → slice_get (log_entries old.history k) node.applied ≡ o → (r : Result (Option Verdict) StepFault) → AppliesNext node next o r → IsOfLog old.work_limit (log_entries old.history k) node
      → IsOfLog old.work_limit (log_entries old.history k) next
  of_log_at None at (Ok None) h log = subst (λ (l : NodeLibrary). IsOfLog old.work_limit (log_entries old.history k) l) (sym h) log
  of_log_at None at (Ok (Some verdict)) h log = elim h [ ]
  of_log_at None at (Err fault) h log = elim h [ ]
  of_log_at (Some entry) at (Err fault) h log = subst (λ (l : NodeLibrary). IsOfLog old.work_limit (log_entries old.history k) l) (sym h.1) log
  of_log_at (Some entry) at (Ok None) h log = elim h [ ]
  of_log_at (Some entry) at (Ok (Some verdict)) h log = of_log_applied old.work_limit (log_entries old.history k) node entry verdict next log at h.0 h.1

  -- after the call each library is still that of its log
  pub call_keeps : AreLibrariesOfLogs old → AreLibrariesOfLogs becomes
  call_keeps h = applied_are_libraries old k next h (of_log_at (slice_get (log_entries old.history k) node.applied) refl result from (h.of_logs k node is))
