-- The libraries of a world: each is that of its log, after any event and any entry applied.
use Rattle.world.proofs.Words.{◌≡◌, ◌≢◌, ℕ, zero, suc, ◌+◌, ◌==◌, Bool, true, false, List, [], ◌∷◌, ◌++◌, length, take, replicate, set, slice_get, Option, Some, None, Result, Ok, Err, refl, ap, sym, ◌∙◌, subst, arith, add-one, length-append, IsOk, IfErr, nat_tests, length-set, length-replicate, take-append-le, slice_get_within, take_next, Entry, Text, Charter, Verdict, Added, Nothing, Refused, Repeat, ReplicaState, status_of, Applies, AppliesAt, Decides, IsLibraryOf, library-more, Carried, Event, Offer, Begin, Deliver, Restart, StepFault, World, first_world, event_result, events_result, log, log_after, IsPrefixOf, BeginsNew, History, new_history, world_of, with_event, carried_size, value_event, value_events, entries_of, NodeLibrary, WorldView, new_node_library, new_node_libraries, node_restarted, with_library_reset, after_event, log_entries, IsOfLog, AreLibrariesOfLogs, if_taken, events_result-append, after-push, log_grows, at_set_other}
use Rattle.world.proofs.EntryLogs.{value_events-append, entries_begin}

-- A library and its log.

-- a new library is that of the first zero entries of any log
pub new_is_of_log : (limit : Option ℕ) (log : List (Option Entry)) → IsOfLog limit log (new_node_library limit)
new_is_of_log limit log = record { within = omega arith; library = refl }

-- a library of a log is also one of each longer log
pub of_longer : (limit : Option ℕ) (log longer : List (Option Entry)) (node : NodeLibrary) → IsPrefixOf log longer → IsOfLog limit log node → IsOfLog limit longer node
of_longer limit log longer node begins h = record {
  within = let count : length log + length begins.0 ≡ length longer = sym (length-append log begins.0) ∙ ap (λ (es : List (Option Entry)). length es) begins.1 in
      let low = h.within in omega (arith, count, low);
  library = subst (λ (es : List (Option Entry)). IsLibraryOf limit es node.library) (sym (take-append-le node.applied log begins.0 h.within) ∙ ap (λ (es : List (Option Entry)). take node.applied es) begins.1) h.library;
}

-- an entry leaves the limit on work as it was
pub limit-applied : (old : ReplicaState) (entry : Option Entry) (verdict : Verdict) (new : ReplicaState) → Applies old entry verdict new → new.limit ≡ old.limit
limit-applied old None verdict new h = ap (λ (r : ReplicaState). r.limit) h.1
limit-applied old (Some entry) verdict new h = at (status_of old entry) h where
  by_entry : (e : Entry) (v : Verdict) → Decides old e v new → new.limit ≡ old.limit
  by_entry (Text submission) Added d = ap (λ (r : ReplicaState). r.limit) d.2
  by_entry (Text submission) (Refused cause) d = ap (λ (r : ReplicaState). r.limit) d.1
  by_entry (Text submission) Nothing d = elim d [ ]
  by_entry (Text submission) Repeat d = elim d [ ]
  by_entry (Charter author serial names) Added d = ap (λ (r : ReplicaState). r.limit) d.1
  by_entry (Charter author serial names) (Refused cause) d = ap (λ (r : ReplicaState). r.limit) d.2
  by_entry (Charter author serial names) Nothing d = elim d [ ]
  by_entry (Charter author serial names) Repeat d = elim d [ ]

  at : (first : Option Verdict) → AppliesAt first old entry verdict new → new.limit ≡ old.limit
  at (Some first) a = ap (λ (r : ReplicaState). r.limit) a.1
  at None d = by_entry entry verdict d

-- with the next entry applied, a library of a log is still one of that log
pub of_log_applied : (limit : Option ℕ) (log : List (Option Entry)) (node : NodeLibrary) (entry : Option Entry) (verdict : Verdict) (next : NodeLibrary) → IsOfLog limit log node → slice_get log node.applied ≡ Some entry → Applies node.library entry verdict next.library → next.applied ≡ node.applied + 1
    → IsOfLog limit log next
of_log_applied limit log node entry verdict next h is applies one_more =
    let up : next.applied ≡ suc node.applied = one_more ∙ add-one node.applied in
    record {
      within = let low = slice_get_within log node.applied entry is in omega (arith, up, low);
      library = subst (λ (es : List (Option Entry)). IsLibraryOf limit es next.library) (sym (ap (λ (n : ℕ). take n log) up ∙ take_next log node.applied entry is))
          (library-more limit (take node.applied log) node.library next.library entry verdict h.library applies);
    }

-- The libraries of all nodes.

-- the element found at the index that was set is the one that was set
set_new : {A : Type 0} (xs : List A) (i : ℕ) (y z : A) → slice_get (set xs i y) i ≡ Some z → z ≡ y
set_new [] i y z got = cc
set_new (v ∷ xs) zero y z got = cc
set_new (v ∷ xs) (suc i) y z got = set_new xs i y z got

get-replicate : {A : Type 0} (n k : ℕ) (x y : A) → slice_get (replicate n x) k ≡ Some y → y ≡ x
get-replicate zero k x y is = cc
get-replicate (suc n) zero x y is = cc
get-replicate (suc n) (suc k) x y is = get-replicate n k x y is

-- new libraries, one for each node, are those of their logs
pub new_are_libraries : (limit : Option ℕ) (history : History Carried) → BeginsNew history → (nodes : ℕ) → nodes ≡ length history.weights → (libraries : List NodeLibrary) → libraries ≡ replicate nodes (new_node_library limit) → AreLibrariesOfLogs (record { history = history; work_limit = limit; libraries = libraries })
new_are_libraries limit history begins nodes count libraries new = subst (λ (ls : List NodeLibrary). AreLibrariesOfLogs (record { history = history; work_limit = limit; libraries = ls })) (sym new) record {
  begins_new = begins;
  one_each = length-replicate nodes (new_node_library limit) ∙ count;
  of_logs = λ k node is. subst (λ (n : NodeLibrary). IsOfLog limit (log_entries history k) n) (sym (get-replicate nodes k (new_node_library limit) node is)) (new_is_of_log limit (log_entries history k));
}

-- One more event.

-- an event that restarts node n is no restart of another node
restart_other : (k : ℕ) (e : Event Carried) (n : ℕ) → node_restarted e ≡ Some n → n ≢ k → e ≢ Restart k
restart_other k (Offer j v) n is other = cc
restart_other k (Begin j) n is other = cc
restart_other k (Deliver number) n is other = cc
restart_other k (Restart j) n is other = λ same. other (let a : j ≡ n = cc in let b : j ≡ k = cc in sym a ∙ b)

-- an event that restarts no node is no restart of node k
no_restart : (k : ℕ) (e : Event Carried) → node_restarted e ≡ None → e ≢ Restart k
no_restart k (Offer j v) is = λ same. let no = same in cc
no_restart k (Begin j) is = λ same. let no = same in cc
no_restart k (Deliver number) is = λ same. let no = same in cc
no_restart k (Restart j) is = λ same. cc

module _ (limit : Option ℕ) (history : History Carried) (w x : World Carried) (was : world_of carried_size history ≡ Ok w) (e : Event Carried) (is : world_of carried_size (with_event history e) ≡ Ok x) where
  -- the event leads from the world before it to the one after it
  happened : event_result carried_size w e ≡ Ok x
  happened = sym (after-push carried_size history w e was) ∙ is

  -- the log of node k before an event other than its restart is a prefix of the log after it
  log_longer : (k : ℕ) → e ≢ Restart k → IsPrefixOf (log_entries history k) (log_entries (with_event history e) k)
  log_longer k other =
      let grows = if_taken (λ (y : World Carried). IsPrefixOf (log w k) (log y k)) (event_result carried_size w e) x happened (log_grows carried_size w k e other) in
      let longer = entries_begin (log w k) (log x k) grows in
      (longer.0, ap (λ (r : Result (World Carried) StepFault). entries_of (log_after r k) ++ longer.0) was ∙ longer.1 ∙ ap (λ (r : Result (World Carried) StepFault). entries_of (log_after r k)) (sym is))

  -- after an event other than a restart of node k, a library of the log of k is still one
  stays_of_log : (k : ℕ) (node : NodeLibrary) → e ≢ Restart k → IsOfLog limit (log_entries history k) node → IsOfLog limit (log_entries (with_event history e) k) node
  stays_of_log k node other h = of_longer limit (log_entries history k) (log_entries (with_event history e) k) node (log_longer k other) h

  -- if node n restarts, the library at k is that of its log: a new one if k is n, else the old one
  at_restart : (libraries : List NodeLibrary) (n k : ℕ) → node_restarted e ≡ Some n → (node old : NodeLibrary) → slice_get (set libraries n (new_node_library limit)) k ≡ Some node
      → ((other : NodeLibrary) → slice_get libraries k ≡ Some other → IsOfLog limit (log_entries history k) other) → (t : Bool) → (n == k) ≡ t → IsOfLog limit (log_entries (with_event history e) k) node
  at_restart libraries n k restart node old got each false test =
      let other : n ≢ k = grind (arith, nat_tests) in
      stays_of_log k node (restart_other k e n restart other) (each node (sym (at_set_other libraries n k (new_node_library limit) other) ∙ got))
  at_restart libraries n k restart node old got each true test =
      let same : n ≡ k = grind (arith, nat_tests) in
      let new : node ≡ new_node_library limit = set_new libraries k (new_node_library limit) node (subst (λ (i : ℕ). slice_get (set libraries i (new_node_library limit)) k ≡ Some node) same got) in
      subst (λ (l : NodeLibrary). IsOfLog limit (log_entries (with_event history e) k) l) (sym new) (new_is_of_log limit (log_entries (with_event history e) k))

  -- after the event each library is that of its log, with the one of a node that restarts reset
  keeps_each : (libraries : List NodeLibrary) → ((k : ℕ) (node : NodeLibrary) → slice_get libraries k ≡ Some node → IsOfLog limit (log_entries history k) node)
      → (o : Option ℕ) → node_restarted e ≡ o → (k : ℕ) (node : NodeLibrary) → slice_get (with_library_reset limit libraries o) k ≡ Some node → IsOfLog limit (log_entries (with_event history e) k) node
  keeps_each libraries each None none k node got = stays_of_log k node (no_restart k e none) (each k node got)
  keeps_each libraries each (Some n) restart k node got = at_restart libraries n k restart node node got (each k) (n == k) refl

-- resetting a library keeps their count
as_many : (limit : Option ℕ) (libraries : List NodeLibrary) (o : Option ℕ) → length (with_library_reset limit libraries o) ≡ length libraries
as_many limit libraries None = refl
as_many limit libraries (Some k) = length-set libraries k (new_node_library limit)

-- if a history with one more event is taken, so is the history
ok_before : (history : History Carried) (e : Event Carried) → IsOk (world_of carried_size (with_event history e)) → IsOk (world_of carried_size history)
ok_before history e is = before (world_of carried_size history) (subst IsOk (events_result-append carried_size history.events (e ∷ []) (Ok (first_world history))) is) where
  before : (r : Result (World Carried) StepFault) → IsOk (events_result carried_size (e ∷ []) r) → IsOk r
  before (Ok w) h = refl
  before (Err fault) h = h

-- after an event that is taken each library is that of its log
then_are_libraries : (old : WorldView) (e : Event Carried) → IsOk (world_of carried_size (with_event old.history e)) → AreLibrariesOfLogs old → AreLibrariesOfLogs (after_event old e)
then_are_libraries old e is h = both (world_of carried_size old.history) refl (world_of carried_size (with_event old.history e)) refl (ok_before old.history e is) is where
  both : (r : Result (World Carried) StepFault) → world_of carried_size old.history ≡ r → (s : Result (World Carried) StepFault) → world_of carried_size (with_event old.history e) ≡ s → IsOk r → IsOk s → AreLibrariesOfLogs (after_event old e)
  both (Ok w) at (Ok x) then ok done = record {
    begins_new = h.begins_new;
    one_each = as_many old.work_limit old.libraries (node_restarted e) ∙ h.one_each;
    of_logs = keeps_each old.work_limit old.history w x at e then old.libraries h.of_logs (node_restarted e) refl;
  }
  both (Err fault) at s then ok done = let no : false ≡ true = ok in cc
  both (Ok w) at (Err fault) then ok done = let no : false ≡ true = done in cc

-- if the result is a count and not a fault that is met, the events are taken
ok_unless_met : (r : Result (World Carried) StepFault) (count : ℕ) → IfErr r (λ fault. let answer : Result ℕ StepFault = Ok count in answer ≡ Err fault) → IsOk r
ok_unless_met (Ok w) count h = refl
ok_unless_met (Err fault) count h = cc

-- if a step returns an answer, the history with its event is taken
pub step_taken : {A : Type 0} (old new : WorldView) (e : Event Carried) (result : Result A StepFault) (answer : A) → new ≡ after_event old e → result ≡ Ok answer
    → IfErr (world_of carried_size (with_event old.history e)) (λ fault. result ≡ Err fault) → IsOk (world_of carried_size new.history)
step_taken old new e result answer becomes ok refused = subst (λ (r : WorldView). IsOk (world_of carried_size r.history)) (sym becomes) (met (world_of carried_size (with_event old.history e)) refused) where
  met : (r : Result (World Carried) StepFault) → IfErr r (λ fault. result ≡ Err fault) → IsOk r
  met (Ok w) h = refl
  met (Err fault) h = cc

-- after a step that returns a count each library is that of its log
pub step_keeps : (old : WorldView) (e : Event Carried) (history : History Carried) (libraries : List NodeLibrary) (restarted_node : Option ℕ) (count : ℕ) → AreLibrariesOfLogs old
    → history ≡ with_event old.history e → restarted_node ≡ node_restarted e → libraries ≡ with_library_reset old.work_limit old.libraries restarted_node
    → IfErr (world_of carried_size (with_event old.history e)) (λ fault. let answer : Result ℕ StepFault = Ok count in answer ≡ Err fault) → AreLibrariesOfLogs (record { history = history; work_limit = old.work_limit; libraries = libraries })
step_keeps old e history libraries restarted_node count h is restarts_is given refused =
    subst AreLibrariesOfLogs (sym (record_is history (with_event old.history e) libraries (with_library_reset old.work_limit old.libraries (node_restarted e)) is (given ∙ ap (λ (o : Option ℕ). with_library_reset old.work_limit old.libraries o) restarts_is)))
    (then_are_libraries old e (ok_unless_met (world_of carried_size (with_event old.history e)) count refused) h) where
      record_is : (s t : History Carried) (ls ms : List NodeLibrary) → s ≡ t → ls ≡ ms → let r : WorldView = record { history = s; work_limit = old.work_limit; libraries = ls } in r ≡ record { history = t; work_limit = old.work_limit; libraries = ms }
      record_is s t ls ms a b = ap (λ (u : History Carried). let r : WorldView = record { history = u; work_limit = old.work_limit; libraries = ls } in r) a ∙ ap (λ (ns : List NodeLibrary). let r : WorldView = record { history = t; work_limit = old.work_limit; libraries = ns } in r) b

-- One entry applied at node k.

-- with the library of node k set to one of its log, each library is still that of its log
pub applied_are_libraries : (old : WorldView) (k : ℕ) (next : NodeLibrary) → AreLibrariesOfLogs old → IsOfLog old.work_limit (log_entries old.history k) next → AreLibrariesOfLogs (record { history = old.history; work_limit = old.work_limit; libraries = set old.libraries k next })
applied_are_libraries old k next h here = record {
  begins_new = h.begins_new;
  one_each = length-set old.libraries k next ∙ h.one_each;
  of_logs = λ j node got. at_node j node got (k == j) refl;
} where
  at_node : (j : ℕ) (node : NodeLibrary) → slice_get (set old.libraries k next) j ≡ Some node → (t : Bool) → (k == j) ≡ t → IsOfLog old.work_limit (log_entries old.history j) node
  at_node j node got true test =
      let same : k ≡ j = grind (arith, nat_tests) in
      let new : node ≡ next = set_new old.libraries j next node (subst (λ (i : ℕ). slice_get (set old.libraries i next) j ≡ Some node) same got) in
      subst (λ (l : NodeLibrary). IsOfLog old.work_limit (log_entries old.history j) l) (sym new) (subst (λ (i : ℕ). IsOfLog old.work_limit (log_entries old.history i) next) same here)
  at_node j node got false test =
      let other : k ≢ j = grind (arith, nat_tests) in
      h.of_logs j node (sym (at_set_other old.libraries k j next other) ∙ got)

-- A run on new libraries leaves them new.

-- if one of a list of new libraries is reset, all are new
new_given_up : (limit : Option ℕ) (n : ℕ) (o : Option ℕ) → with_library_reset limit (replicate n (new_node_library limit)) o ≡ replicate n (new_node_library limit)
new_given_up limit n None = refl
new_given_up limit n (Some k) = set_again n k where
  set_again : (m i : ℕ) → set (replicate m (new_node_library limit)) i (new_node_library limit) ≡ replicate m (new_node_library limit)
  set_again zero i = refl
  set_again (suc m) zero = refl
  set_again (suc m) (suc i) = ap (λ ls. new_node_library limit ∷ ls) (set_again m i)

-- the world of a run: its events, and new libraries
abbrev pub run_world : List ℕ → ℕ → Option ℕ → List (Event Entry) → WorldView
run_world weights event_limit work_limit done = record {
  history = new_history weights event_limit (value_events done);
  work_limit = work_limit;
  libraries = new_node_libraries work_limit weights;
}

-- with one more event the world of a run still has new libraries
pub run_goes_on : (weights : List ℕ) (event_limit : ℕ) (work_limit : Option ℕ) (done : List (Event Entry)) (e : Event Entry) (old new : WorldView) → old ≡ run_world weights event_limit work_limit done
    → new ≡ after_event old (value_event e) → new ≡ run_world weights event_limit work_limit (done ++ e ∷ [])
run_goes_on weights event_limit work_limit done e old new was is =
    is ∙ (ap (λ (r : WorldView). after_event r (value_event e)) was
    ∙ (ap (λ (es : List (Event Carried)). let r : WorldView = record { history = new_history weights event_limit es; work_limit = work_limit; libraries = with_library_reset work_limit (new_node_libraries work_limit weights) (node_restarted (value_event e)) } in r) (sym (value_events-append done (e ∷ [])))
    ∙ ap (λ (ls : List NodeLibrary). let r : WorldView = record { history = new_history weights event_limit (value_events (done ++ e ∷ [])); work_limit = work_limit; libraries = ls } in r) (new_given_up work_limit (length weights) (node_restarted (value_event e)))))
