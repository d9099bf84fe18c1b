-- The count of nodes, the dispatch of an event by its node, and a call in terms of the variables of
-- its function.
use Rattle.switch.proofs.Words.{◌≡◌, ℕ, ◌<◌, Bool, true, false, List, length, get_or, set, slice_get, Option, Some, Result, Ok, Err, refl, ap, sym, ◌∙◌, subst, arith, ForOk, slice_get_within, slice_get_read, Change, changed_by, kept_of, Event, Offer, Begin, Deliver, Restart, StepFault, Device, Down, World, packets_after, History, world_of_taken, node_of, StagedEvent, NetView, IsStaged, ChangesOnlyCapacity, IsTaken, change_in, count_shown, Status, up, down, StoreState, StoreView, is_unloaded, is_unloaded_view, Fails, pending_change, SwitchView, pending_event, IsPendingStaged, IsSwitch, IsReloadOutcome, world_of, is_down_at, is_unloaded_at, pending_on_failure, IsEffectUnlessDown, IsEffectAtDownNode, IsEffect}
use Rattle.switch.proofs.StoresLemmas.{count_views, unloaded_is_down}
use Rattle.switch.proofs.SwitchLemmas.{switch_view, still_switch}
use Rattle.switch.proofs.CallLemmas.{still_view, after_is, is_up_at, kept_up, failed, failed_acts, played, played_acts}

-- there are as many stores as weights
pub count_now : {V : Type 0} (size : V → ℕ) (net : NetView V) (stores : List (StoreState V)) (h : IsSwitch size net stores) (now : SwitchView V) (seen : switch_view net stores ≡ now) → length now.stores ≡ length net.history.weights
count_now {V} size net stores h now seen = ap (λ (s : SwitchView V). length s.stores) (sym seen) ∙ count_views stores ∙ h.count ∙ count_shown size net.history net.history net.cores net.packets h.world refl

-- The dispatch of an event by its node.

module _ {V : Type 0} (size : V → ℕ) (now : SwitchView V) (e : Event V) (o : Option ℕ) (node : (x : World V) → world_of size now ≡ Ok x → node_of x e ≡ o) where
  -- the node that was found is down exactly if the node of the event is
  pub test_at : (t : Bool) → is_down_at now.stores o ≡ t → (x : World V) → world_of size now ≡ Ok x → is_down_at now.stores (node_of x e) ≡ t
  test_at t test x d = ap (λ (p : Option ℕ). is_down_at now.stores p) (node x d) ∙ test

  module _ (new : SwitchView V) (result : Result ℕ StepFault) where
    -- an event whose node is down has the effect of an event at a node that is down
    pub down_acts : is_down_at now.stores o ≡ true → ((k : ℕ) → e ≡ Restart k → is_unloaded_at now.stores k ≡ true → IsReloadOutcome size now new k result)
        → ForOk (world_of size now) (λ x. IsEffectAtDownNode size x now new e result) → ForOk (world_of size now) (λ x. IsEffect size x now new e result)
    down_acts test stays effect = λ x d. record { is_down = λ yes. effect x d; is_unloaded = stays; is_up = λ no. (let never : true ≡ false = sym (test_at true test x d) ∙ no in cc) }

    -- an event whose node is not down has the effect of an event at a node that is up
    pub up_acts : is_down_at now.stores o ≡ false → ForOk (world_of size now) (λ x. IsEffectUnlessDown size x now new e result) → ForOk (world_of size now) (λ x. IsEffect size x now new e result)
    up_acts test effect = λ x d. record {
      is_down = λ yes. (let never : false ≡ true = sym (test_at false test x d) ∙ yes in cc);
      is_unloaded = λ k is yes.
          (let at_k : node_of x e ≡ Some k = ap (λ (f : Event V). node_of x f) is in
          let never : false ≡ true = sym (test_at false test x d) ∙ ap (λ (p : Option ℕ). is_down_at now.stores p) at_k ∙ unloaded_is_down now.stores k yes in cc);
      is_up = λ no. effect x d;
    }

-- if its store fails, an event other than a restart is itself the pending one
pub no_restart : {V : Type 0} (e : Event V) → ((k : ℕ) → e ≡ Restart k → ⊥) → pending_on_failure e ≡ Some e
no_restart (Offer k v) other = refl
no_restart (Begin k) other = refl
no_restart (Deliver number) other = refl
no_restart (Restart k) other = absurd (other k refl)

-- an event other than a restart is refused at a node that is down
pub refused_down : {V : Type 0} (size : V → ℕ) (now : SwitchView V) (e : Event V) → pending_on_failure e ≡ Some e → ForOk (world_of size now) (λ x. IsEffectAtDownNode size x now now e (Err Down))
refused_down size now (Offer k v) is = λ x d. (refl, refl)
refused_down size now (Begin k) is = λ x d. (refl, refl)
refused_down size now (Deliver number) is = λ x d. (refl, refl)
refused_down size now (Restart k) is = cc

-- what holds of a restart of node k, if that is unloaded, holds of an event that is this restart
pub own_restart : {V : Type 0} (size : V → ℕ) (now new : SwitchView V) (result : Result ℕ StepFault) (e : Event V) (k : ℕ) → e ≡ Restart k → (is_unloaded_at now.stores k ≡ true → IsReloadOutcome size now new k result) → (j : ℕ) → e ≡ Restart j → is_unloaded_at now.stores j ≡ true → IsReloadOutcome size now new j result
own_restart {V} size now new result e k is outcome j other there =
    let both : (let f : Event V = Restart k in f) ≡ Restart j = sym is ∙ other in
    let same : k ≡ j = cc in
    subst (λ (i : ℕ). IsReloadOutcome size now new i result) same (outcome (ap (λ (i : ℕ). is_unloaded_at now.stores i) same ∙ there))

-- a node that is unloaded owes no event
pub none_owed : {V : Type 0} (size : V → ℕ) (now new : SwitchView V) (k : ℕ) (result : Result ℕ StepFault) → is_unloaded_at now.stores k ≡ true → ForOk (world_of size now) (λ x. IsEffectAtDownNode size x now new (Restart k) result)
none_owed {V} size now new k result is = λ x d view at e stands.
    let shown : is_unloaded_view (slice_get now.stores k) ≡ false = ap (λ (o : Option (StoreView V)). is_unloaded_view o) at ∙ ap (λ (s : Status (Event V)). is_unloaded s) stands in
    let never : true ≡ false = sym is ∙ shown in cc

-- A call in terms of the variables of its function: the event was readied, and the store is found
-- by its number.

module _ {V : Type 0} (size : V → ℕ) (a b : NetView V) (only_capacity : ChangesOnlyCapacity a b) (stores : List (StoreState V)) (h : IsSwitch size a stores) (now : SwitchView V) (seen : switch_view a stores ≡ now) (d1 : StagedEvent V) (d : IsStaged size b d1) (k : ℕ) (is_at : k ≡ d1.at) where
  -- the readied net and the stores are a switch
  hb : IsSwitch size b stores
  hb = still_switch size a stores h b only_capacity

  -- the view is the one before the event was readied
  seen_b : switch_view b stores ≡ now
  seen_b = still_view a b stores only_capacity ∙ seen

  -- there is a store at this number
  pub in_stores : k < length stores
  in_stores = let low = slice_get_within b.cores d1.at d.core d.at in let count = hb.count in omega (arith, low, count, is_at)

  module _ (e : Event V) (is_e : d1.event ≡ e) (few : length a.history.events < a.history.event_limit) (store : StoreState V) (is : store ≡ get_or stores k store) (up_now : ForOk (world_of size now) (λ x. is_down_at now.stores (node_of x e) ≡ false)) where
    -- the store that was read is the one of the node at which the event is staged
    found : slice_get stores d1.at ≡ Some store
    found = ap (λ (i : ℕ). slice_get stores i) (sym is_at) ∙ slice_get_read stores (length stores) k store refl in_stores is

    -- the history is below the limit of events
    low : length b.history.events < b.history.event_limit
    low =
        let same = ap (λ (t : History V). length t.events) only_capacity.history in
        let limit = ap (λ (t : History V). t.event_limit) only_capacity.history in
        omega (arith, same, limit, few)

    -- if the node of the event is not down in the view, this store is up
    pub is_up : store.status ≡ up
    is_up = is_up_at size b stores hb now seen_b d1 d low e is_e store found (up_now hb.world.world (after_is size b stores hb now seen_b))

    -- the record of its keep is the kept part of the node
    pub kept_is : store.kept ≡ kept_of d.core.node
    kept_is = kept_up size b stores hb now seen_b d1 d low e is_e store found is_up

    -- if a call of the keep failed, the net and the stores are still a switch, and Device is the
    -- right answer
    pub call_failed : (o : Option (StagedEvent V)) (change : Option (Change V)) → change ≡ change_in d1.work → pending_change o ≡ change → pending_event o ≡ pending_on_failure e → IsPendingStaged size b d1.at (down o) → (new : StoreState V) → Fails store change (down o) new
        → IsSwitch size b (set stores k new) × ForOk (world_of size now) (λ x. IsEffectUnlessDown size x now (switch_view b (set stores k new)) e (Err Device))
    call_failed o change is_change owes is_staged pending_staged new fails =
        subst (λ (i : ℕ). IsSwitch size b (set stores i new) × ForOk (world_of size now) (λ x. IsEffectUnlessDown size x now (switch_view b (set stores i new)) e (Err Device))) (sym is_at) (
          failed size b stores hb now seen_b d1 d low e is_e store found is_up o change is_change owes is_staged pending_staged new fails,
          failed_acts size b stores hb now seen_b d1 d low e is_e store found is_up o change is_change owes is_staged pending_staged new fails,
        )

    -- if the keep made the change and the event was taken, the net and the stores are a switch, and
    -- the count of packets is the right answer
    pub call_played : (new : StoreState V) → new ≡ record store { kept = changed_by store.kept (change_in d1.work) } → (c : NetView V) → IsTaken b c d1 → (count : ℕ) → count ≡ length (packets_after (world_of_taken size c.history))
        → IsSwitch size c (set stores k new) × ForOk (world_of size now) (λ x. IsEffectUnlessDown size x now (switch_view c (set stores k new)) e (Ok count))
    call_played new stored c t count counted =
        subst (λ (i : ℕ). IsSwitch size c (set stores i new) × ForOk (world_of size now) (λ x. IsEffectUnlessDown size x now (switch_view c (set stores i new)) e (Ok count))) (sym is_at) (
          played size b stores hb now seen_b d1 d low e is_e store found is_up new stored c t,
          played_acts size b stores hb now seen_b d1 d low e is_e store found is_up new stored c t count counted,
        )
