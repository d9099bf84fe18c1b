-- A prefix of a node's log remains one after any event other than a restart of that node.
use Rattle.switch.proofs.Words.{◌≡◌, ◌≢◌, ℕ, ◌<◌, ◌==◌, Bool, true, false, List, [], ◌∷◌, ◌++◌, length, slice_get, inl, inr, Option, Some, None, Result, Ok, Err, refl, ap, sym, ◌∙◌, subst, arith, nat_lt, ◌+◌, IsSome, OnErr, option_map, nat_tests, length-set, Packet, Change, Refusal, Node, StepResult, offer_result, begin_result, on_packet, restarted, Event, Offer, Begin, Deliver, Restart, StepFault, World, at_node, delivered, event_result_without_limit, event_result, log, log_after, events_result, IsAfter, first_world, history_of, IsPrefixOf, node_of, change_of, IfTaken, if_taken, spent_or, events_result-append, after-push, log_grows, then_begins, Status, up, down, unloaded, StoreView, SwitchView, world_of, with_store, ViewFitsNode, AreStores, IsReloadOutcome, is_down, is_down_view, is_down_at, is_unloaded, is_unloaded_view, is_unloaded_at, pending_on_failure, change_of_pending, pending_events, FailsAt, IsOutcomeAt, IsEffectUnlessDown, IsRecoveryOutcome, IsEffectOfRecovery, IsEffectAtDownNode, IsEffect, IsLogPrefix, KeepsPrefixes, EventKeepsPrefixes, append-nil}
use Rattle.switch.specs.Switch.{with_event}

-- The node of an event that is taken exists.

pub record IsOfNode {V : Type 0} (w : World V) (e : Event V) : Type 0 where
  pub k : ℕ
  pub node : node_of w e ≡ Some k
  pub there : IsSome (slice_get w.nodes k)

module _ {V : Type 0} (size : V → ℕ) (w : World V) where
  -- if an event of node k is taken, node k exists
  there_at : (e : Event V) (k : ℕ) → node_of w e ≡ Some k → (make : Node V → Result (StepResult V) Refusal) (o : Option (Node V)) → slice_get w.nodes k ≡ o → IfTaken (at_node w k make o) (λ x. IsOfNode w e)
  there_at e k is make None none = tt
  there_at e k is make (Some n) some = anyway (at_node w k make (Some n)) where
    anyway : (r : Result (World V) StepFault) → IfTaken r (λ x. IsOfNode w e)
    anyway (Ok x) = record { k = k; node = is; there = ap (λ (o : Option (Node V)). let t : Bool = elim o as (λ p. Bool) [ None ↦ false | Some m ↦ true ] in t) some }
    anyway (Err fault) = tt

  -- if a delivery is taken, the node to which the packet is addressed exists
  there_delivered : (number : ℕ) (o : Option (Packet V)) → slice_get w.packets number ≡ o → IfTaken (delivered w o) (λ x. IsOfNode w (Deliver number))
  there_delivered number None none = tt
  there_delivered number (Some p) some = there_at (Deliver number) p.to (ap (λ (o : Option (Packet V)). option_map (λ p. p.to) o) some) (λ n. Ok (on_packet n p)) (slice_get w.nodes p.to) refl

  -- if an event is taken, its node exists, the limit of events aside
  there_happens_at : (e : Event V) → IfTaken (event_result_without_limit size w e) (λ x. IsOfNode w e)
  there_happens_at (Offer k v) = there_at (Offer k v) k refl (λ n. offer_result size n v) (slice_get w.nodes k) refl
  there_happens_at (Begin k) = there_at (Begin k) k refl begin_result (slice_get w.nodes k) refl
  there_happens_at (Deliver number) = there_delivered number (slice_get w.packets number) refl
  there_happens_at (Restart k) = there_at (Restart k) k refl (λ n. Ok (restarted n)) (slice_get w.nodes k) refl

  -- the node of an event that happens exists
  pub node_there : (e : Event V) (x : World V) → event_result size w e ≡ Ok x → IsOfNode w e
  node_there e x happened = if_taken (λ (y : World V). IsOfNode w e) (event_result size w e) x happened (spent_or (λ (y : World V). IsOfNode w e) (event_result_without_limit size w e) (w.event_count == w.event_limit) (there_happens_at e))

-- the log of node j before an event other than its restart is a prefix of the log after it
log_goes_on : {V : Type 0} (size : V → ℕ) (w : World V) (e : Event V) (x : World V) → event_result size w e ≡ Ok x → (j : ℕ) → e ≢ Restart j → IsPrefixOf (log w j) (log x j)
log_goes_on {V} size w e x happened j other = if_taken (λ (y : World V). IsPrefixOf (log w j) (log y j)) (event_result size w e) x happened (log_grows size w j e other)

-- The logs after a call.

module _ {V : Type 0} (size : V → ℕ) (old : SwitchView V) where
  -- if nothing changes, each prefix of a log remains one
  pub same_stays : (new : SwitchView V) → new ≡ old → KeepsPrefixes size old new
  same_stays new is k entries h = subst (λ (s : SwitchView V). IsLogPrefix size s k entries) (sym is) h

  -- if only a store changes, each prefix of a log remains one
  pub view_stays : (new : SwitchView V) (k : ℕ) (view : StoreView V) → new ≡ with_store old k view → KeepsPrefixes size old new
  view_stays new k view is j entries h = subst (λ (s : SwitchView V). IsLogPrefix size s j entries) (sym is) record {
    node = subst (λ (n : ℕ). j < n) (sym (length-set old.stores k view)) h.node;
    begins = h.begins;
  }

  module _ (w : World V) (was : world_of size old ≡ Ok w) where
    -- if the log of node j in w is a prefix of that in x, each prefix of it remains one in a
    -- history that leads to x
    longer_stays : (new : SwitchView V) (x : World V) → world_of size new ≡ Ok x → length new.stores ≡ length old.stores → (j : ℕ) (entries : List (Option V)) → IsPrefixOf (log w j) (log x j) → IsLogPrefix size old j entries → IsLogPrefix size new j entries
    longer_stays new x is count j entries grows h = record {
      node = subst (λ (n : ℕ). j < n) (sym count) h.node;
      begins =
          let now : log_after (world_of size old) j ≡ log w j = ap (λ (r : Result (World V) StepFault). log_after r j) was in
          let then : log_after (world_of size new) j ≡ log x j = ap (λ (r : Result (World V) StepFault). log_after r j) is in
          subst (λ (es : List (Option V)). IsPrefixOf entries es) (sym then) (then_begins entries (log w j) (log x j) (subst (λ (es : List (Option V)). IsPrefixOf entries es) now h.begins) grows);
    }

    -- if an event other than a restart of node j is taken, each prefix of the log of j remains one
    taken_stays : (new : SwitchView V) (k : ℕ) (view : StoreView V) (change : Option (Change V)) (e : Event V) (x : World V) → event_result size w e ≡ Ok x → new ≡ with_event old k view change e
        → (j : ℕ) (entries : List (Option V)) → e ≢ Restart j → IsLogPrefix size old j entries → IsLogPrefix size new j entries
    taken_stays new k view change e x happened is j entries other h =
        longer_stays new x
        (ap (λ (s : SwitchView V). world_of size s) is ∙ after-push size (history_of old) w e was ∙ happened)
        (ap (λ (s : SwitchView V). length s.stores) is ∙ length-set old.stores k _)
        j entries (log_goes_on size w e x happened j other) h

    module _ (stores : AreStores size w old.stores) where
      -- each node that exists has a store
      view_there : (k : ℕ) → IsSome (slice_get w.nodes k) → (view : StoreView V) × (slice_get old.stores k ≡ Some view)
      view_there k there = both (slice_get w.nodes k) (slice_get old.stores k) refl there (stores k) where
        both : (n : Option (Node V)) (o : Option (StoreView V)) → slice_get old.stores k ≡ o → IsSome n → ViewFitsNode size w n o → (view : StoreView V) × (slice_get old.stores k ≡ Some view)
        both n (Some view) at some is = (view, at)
        both None None at some is = let no : false ≡ true = some in cc
        both (Some n) None at some is = elim is [ ]

-- A restart.

-- if P holds, it holds if the result is an error
pub on_err : {A E P : Type 0} (r : Result A E) → P → OnErr r P
on_err (Ok a) p = tt
on_err (Err e) p = p

-- the world before the last of the events
record Before {V : Type 0} (size : V → ℕ) (old : SwitchView V) (es : List (Event V)) (e : Event V) (x : World V) : Type 0 where
  mid : World V
  is_after : IsAfter size old es mid
  happened : event_result size mid e ≡ Ok x

-- a history that ends in an event has a world before it, in which the event happens
before : {V : Type 0} (size : V → ℕ) (old : SwitchView V) (es : List (Event V)) (e : Event V) (x : World V) → IsAfter size old (es ++ e ∷ []) x → Before size old es e x
before {V} size old es e x is = from (events_result size es (Ok (first_world (history_of old)))) refl (sym (events_result-append size es (e ∷ []) (Ok (first_world (history_of old)))) ∙ is) where
  from : (r : Result (World V) StepFault) → events_result size es (Ok (first_world (history_of old))) ≡ r → events_result size (e ∷ []) r ≡ Ok x → Before size old es e x
  from (Ok m) at last = record { mid = m; is_after = at; happened = last }
  from (Err fault) at last = let no : Err fault ≡ Ok x = last in cc

module _ {V : Type 0} (size : V → ℕ) (old : SwitchView V) (e : Event V) (new : SwitchView V) (result : Result ℕ StepFault) where
  -- an event that changes nothing keeps the logs
  logs_same : new ≡ old → EventKeepsPrefixes size e old new result
  logs_same is = record {
    others = λ k entries other b. same_stays size old new is k entries b;
    after_error = on_err result (same_stays size old new is);
    nodes = ap (λ (s : SwitchView V). length s.stores) is;
  }

  -- an event that changes only one store keeps the logs
  logs_store : (j : ℕ) (view : StoreView V) → new ≡ with_store old j view → EventKeepsPrefixes size e old new result
  logs_store j view is = record {
    others = λ k entries other b. view_stays size old new j view is k entries b;
    after_error = on_err result (view_stays size old new j view is);
    nodes = ap (λ (s : SwitchView V). length s.stores) is ∙ length-set old.stores j view;
  }

  -- an event at which a call of the keep fails keeps the logs
  logs_fail : (j : ℕ) (view : StoreView V) (change : Option (Change V)) (left : Status (Event V)) → FailsAt old new j view change left → EventKeepsPrefixes size e old new result
  logs_fail j view change left h = logs_store j (record { kept = h.kept; failures = view.failures + 1; status = left; in_group = view.in_group }) h.rest

module _ {V : Type 0} (size : V → ℕ) (old : SwitchView V) (w : World V) (was : world_of size old ≡ Ok w) (stores : AreStores size w old.stores) (new : SwitchView V) where
  -- an event that happens at a node that is up keeps the logs
  takes_logs : (e : Event V) (x : World V) → event_result size w e ≡ Ok x → (k : ℕ) (view : StoreView V) (r : Result ℕ StepFault) → IsOutcomeAt old new e k view (change_of size w e) x r → EventKeepsPrefixes size e old new r
  takes_logs e x happened k view (Ok count) h = record {
    others = λ i entries other b. taken_stays size old w was new k view (change_of size w e) e x happened h.0 i entries other b;
    after_error = tt;
    nodes = ap (λ (s : SwitchView V). length s.stores) h.0 ∙ length-set old.stores k _;
  }
  takes_logs e x happened k view (Err fault) (inl h) = logs_same size old e new (Err fault) h.1
  takes_logs e x happened k view (Err fault) (inr h) = logs_fail size old e new (Err fault) k view (change_of size w e) (down (pending_on_failure e)) h.1

  -- an event whose node is up keeps the logs, whether it happens or meets a fault
  up_logs : (e : Event V) (result : Result ℕ StepFault) → IsEffectUnlessDown size w old new e result → EventKeepsPrefixes size e old new result
  up_logs e result effect = by_world (event_result size w e) refl where
    by_world : (r : Result (World V) StepFault) → event_result size w e ≡ r → EventKeepsPrefixes size e old new result
    by_world (Err fault) meets = logs_same size old e new result (effect.refused fault meets).1
    by_world (Ok x) happened =
        let of = node_there size w e x happened in
        let view = view_there size old w was stores of.k of.there in
        takes_logs e x happened of.k view.0 result (effect.taken x happened of.k of.node view.0 view.1)

  -- if the event that node j owes is taken, the log of each other node is a prefix of the one after
  -- it
  owed_goes_on : (j : ℕ) (e : Option (Event V)) → ((ev : Event V) → e ≡ Some ev → node_of w ev ≡ Some j) → (m : World V) → IsAfter size old (old.history ++ pending_events e) m → (k : ℕ) → k ≢ j → IsPrefixOf (log w k) (log m k)
  owed_goes_on j None pending m is k other =
      let both : Ok w ≡ Ok m = sym was ∙ ap (λ (es : List (Event V)). world_of size (record { weights = old.weights; event_limit = old.event_limit; begins = old.begins; history = es; stores = old.stores })) (sym (append-nil old.history)) ∙ is in
      let same : w ≡ m = cc in
      ([], append-nil (log w k) ∙ ap (λ (x : World V). log x k) same)
  owed_goes_on j (Some ev) pending m is k other =
      let happened : event_result size w ev ≡ Ok m = sym (after-push size (history_of old) w ev was) ∙ is in
      let not : ev ≢ Restart k = λ same. (let both : Some j ≡ Some k = sym (pending ev refl) ∙ ap (λ (e : Event V). node_of w e) same in let number : j ≡ k = cc in other (sym number)) in
      log_goes_on size w ev m happened k not

  -- a restart of a node that is down keeps the logs, whether it takes the pending event first or
  -- finds no memory or a failing keep
  recovered_logs : (j : ℕ) (view : StoreView V) (e : Option (Event V)) → ((ev : Event V) → e ≡ Some ev → node_of w ev ≡ Some j) → (r : Result ℕ StepFault) → IsRecoveryOutcome size w old new j view e r → EventKeepsPrefixes size (Restart j) old new r
  recovered_logs j view e pending (Ok count) h = record {
    others = λ k entries other b.
        (let apart : k ≢ j = λ same. other (ap (λ (i : ℕ). let r : Event V = Restart i in r) (sym same)) in
        let mid = before size old (old.history ++ pending_events e) (Restart j) h.world h.is_after in
        longer_stays size old w was new h.world (ap (λ (s : SwitchView V). world_of size s) h.rest ∙ h.is_after) counted k entries
        (then_begins (log w k) (log mid.mid k) (log h.world k) (owed_goes_on j e pending mid.mid mid.is_after k apart) (log_goes_on size mid.mid (Restart j) h.world mid.happened k other)) b);
    after_error = tt;
    nodes = counted;
  } where
    counted : length new.stores ≡ length old.stores
    counted = ap (λ (s : SwitchView V). length s.stores) h.rest ∙ length-set old.stores j _
  recovered_logs j view e pending (Err fault) (inl h) = logs_store size old (Restart j) new (Err fault) j (record view { kept = h.1.kept }) h.1.rest
  recovered_logs j view e pending (Err fault) (inr h) = logs_fail size old (Restart j) new (Err fault) j view (change_of_pending size w e) view.status h.1

-- what holds after an error of one call holds after it of both
then_err : {A E P Q : Type 0} (r : Result A E) → (P → Q) → OnErr r P → OnErr r Q
then_err (Ok a) more p = tt
then_err (Err e) more p = more p

-- a restart of a node that is unloaded keeps the logs
reload_logs : {V : Type 0} (size : V → ℕ) (old new : SwitchView V) (j : ℕ) (result : Result ℕ StepFault) → IsReloadOutcome size old new j result → EventKeepsPrefixes size (Restart j) old new result
reload_logs size old new j result (inl h) = logs_fail size old (Restart j) new result j h.1.view None unloaded h.1.fails
reload_logs {V} size old new j result (inr h) = record {
  others = λ k entries other b. restarts.others k entries other (stays k entries b);
  after_error = then_err result (λ keeps k entries b. keeps k entries (stays k entries b)) restarts.after_error;
  nodes = restarts.nodes ∙ counted;
} where
  counted : length h.0.stores ≡ length old.stores
  counted = ap (λ (s : SwitchView V). length s.stores) h.1.rest ∙ length-set old.stores j _

  restarts : EventKeepsPrefixes size (Restart j) h.0 new result
  restarts = up_logs size h.0 h.1.world h.1.is_after h.1.stores new (Restart j) result (h.2 h.1.world h.1.is_after)

  stays : (k : ℕ) (entries : List (Option V)) → IsLogPrefix size old k entries → IsLogPrefix size h.0 k entries
  stays k entries b = record {
    node = subst (λ (n : ℕ). k < n) (sym counted) b.node;
    begins = subst (λ (es : List (Option V)). IsPrefixOf entries es) (sym (h.1.logs k)) b.begins;
  }

-- An event that a node owes is one of its own events.
module _ {V : Type 0} (size : V → ℕ) (old : SwitchView V) (w : World V) (was : world_of size old ≡ Ok w) (stores : AreStores size w old.stores) (new : SwitchView V)
    (pending : (j : ℕ) (view : StoreView V) → slice_get old.stores j ≡ Some view → (ev : Event V) → view.status ≡ down (Some ev) → node_of w ev ≡ Some j) where
  -- an event whose node is down keeps the logs
  down_logs : (e : Event V) (result : Result ℕ StepFault) → is_down_at old.stores (node_of w e) ≡ true → ((k : ℕ) → e ≡ Restart k → is_unloaded_at old.stores k ≡ true → IsReloadOutcome size old new k result) → IsEffectAtDownNode size w old new e result → EventKeepsPrefixes size e old new result
  down_logs (Offer k v) result test stays effect = logs_same size old (Offer k v) new result effect.1
  down_logs (Begin k) result test stays effect = logs_same size old (Begin k) new result effect.1
  down_logs (Deliver number) result test stays effect = logs_same size old (Deliver number) new result effect.1
  down_logs (Restart j) result test stays effect = by_view (slice_get old.stores j) refl where
    by_room : (view : StoreView V) (e : Option (Event V)) → ((ev : Event V) → e ≡ Some ev → node_of w ev ≡ Some j) → IsEffectOfRecovery size w old new j view e result → (t : Bool) → nat_lt old.event_limit (length old.history + 2) ≡ t → EventKeepsPrefixes size (Restart j) old new result
    by_room view e own recovers true test = logs_same size old (Restart j) new result (recovers.spent (grind (arith, nat_tests))).1
    by_room view e own recovers false test = recovered_logs size old w was stores new j view e own result (recovers.recovered (grind (arith, nat_tests)))

    by_standing : (view : StoreView V) → slice_get old.stores j ≡ Some view → (s : Status (Event V)) → view.status ≡ s → EventKeepsPrefixes size (Restart j) old new result
    by_standing view at up stands =
        let no : false ≡ true = sym (ap (λ (o : Option (StoreView V)). is_down_view o) at ∙ ap (λ (s : Status (Event V)). is_down s) stands) ∙ test in cc
    by_standing view at (down e) stands = by_room view e (λ ev is. pending j view at ev (stands ∙ ap (λ (o : Option (Event V)). let s : Status (Event V) = down o in s) is)) (effect view at e stands) (nat_lt old.event_limit (length old.history + 2)) refl
    by_standing view at unloaded stands = reload_logs size old new j result (stays j refl (ap (λ (o : Option (StoreView V)). is_unloaded_view o) at ∙ ap (λ (s : Status (Event V)). is_unloaded s) stands))

    by_view : (o : Option (StoreView V)) → slice_get old.stores j ≡ o → EventKeepsPrefixes size (Restart j) old new result
    by_view None none = let no : false ≡ true = sym (ap (λ (o : Option (StoreView V)). is_down_view o) none) ∙ test in cc
    by_view (Some view) at = by_standing view at view.status refl

  -- each event keeps the logs
  pub acts_logs : (e : Event V) (result : Result ℕ StepFault) → IsEffect size w old new e result → EventKeepsPrefixes size e old new result
  acts_logs e result effect = by_test (is_down_at old.stores (node_of w e)) refl where
    by_test : (t : Bool) → is_down_at old.stores (node_of w e) ≡ t → EventKeepsPrefixes size e old new result
    by_test true test = down_logs e result test effect.is_unloaded (effect.is_down test)
    by_test false test = up_logs size old w was stores new e result (effect.is_up test)
