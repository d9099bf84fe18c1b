-- The record of a node that is unloaded is loaded again: the node begins with it, and is up.
use Rattle.switch.proofs.Words.{◌≡◌, ◌≢◌, ℕ, ◌<◌, ◌+◌, true, false, List, length, get_or, set, slice_get, slice_get_read, slice_get_within, Option, Some, None, Ok, refl, ap, sym, ◌∙◌, subst, arith, length-set, AllByRecursion, KeptPart, changed_by, IsPost, kept_of, Core, Node, Packet, History, nodes_of, nodes_of-set, IsIdle, at_set, at_set_other, count_shown, HasResult, StagedEvent, NetView, posts_of, step_of, Status, up, down, unloaded, StoreState, IsRecordOf, IsWithOrWithout, Fails, pending_change, pending_of, StoreView, SwitchView, status_view, view_of, views_of, is_down_at, is_down_view, is_unloaded, is_unloaded_at, is_unloaded_view, IsPendingStaged, StoreFitsNode, IsSwitch, IsLoadedAgain, StaysUnloaded, with_store}
use Rattle.net.specs.Resumed.{BeginsAgain}
use Rattle.switch.specs.NodeStore.{with_pending_change}
use Rattle.switch.proofs.StoresLemmas.{each_after, view_at, view_past, views_of-set}
use Rattle.switch.proofs.SwitchLemmas.{switch_view, other_store}
use Rattle.switch.proofs.CallLemmas.{node_there, stores_are, view_is_same}

-- a node whose record was loaded again is up
pub loaded_up : {V : Type 0} (size : V → ℕ) (old new : SwitchView V) (k : ℕ) → IsLoadedAgain size old new k → is_down_at new.stores (Some k) ≡ false
loaded_up {V} size old new k h =
    ap (λ (s : SwitchView V). is_down_at s.stores (Some k)) h.rest
    ∙ ap (λ (o : Option (StoreView V)). is_down_view o) (at_set old.stores k _ h.view h.at)

-- a status that is shown as unloaded is so
unloaded_of : {V : Type 0} (s : Status (StagedEvent V)) → is_unloaded (status_view s) ≡ true → s ≡ unloaded
unloaded_of up e = cc
unloaded_of (down o) e = cc
unloaded_of unloaded e = refl

module _ {V : Type 0} (size : V → ℕ) (net : NetView V) (stores : List (StoreState V)) (h : IsSwitch size net stores) (now : SwitchView V) (seen : switch_view net stores ≡ now) (k : ℕ) (test : is_unloaded_at now.stores k ≡ true) where
  test_here : is_unloaded_at (views_of stores) k ≡ true
  test_here = ap (λ (s : SwitchView V). is_unloaded_at s.stores k) seen ∙ test

  stands_at : (o : Option (StoreState V)) → slice_get stores k ≡ o → (store : StoreState V) × (slice_get stores k ≡ Some store)
  stands_at (Some store) is = (store, is)
  stands_at None none =
      let no : false ≡ true = sym (ap (λ (o : Option (StoreView V)). is_unloaded_view o) (view_past stores k none)) ∙ test_here in cc

  -- there is a store at this number
  pub in_range : k < length stores
  in_range = let store = stands_at (slice_get stores k) refl in slice_get_within stores k store.0 store.1

  -- and a node
  pub among_nodes : k < length net.history.weights
  among_nodes =
      let low = in_range in
      let count = h.count in
      let all = count_shown size net.history net.history net.cores net.packets h.world refl in
      omega (arith, low, count, all)

  module _ (store : StoreState V) (is : store ≡ get_or stores k store) where
    found : slice_get stores k ≡ Some store
    found = slice_get_read stores (length stores) k store refl in_range is

    is_unloaded_store : store.status ≡ unloaded
    is_unloaded_store = unloaded_of store.status (sym (ap (λ (o : Option (StoreView V)). is_unloaded_view o) (view_at stores k store found)) ∙ test_here)

    -- so it is not up
    pub not_up : store.status ≢ up
    not_up e = let never : unloaded ≡ up = sym is_unloaded_store ∙ e in cc

    its_node : (n : Node V) × (slice_get h.world.world.nodes k ≡ Some n)
    its_node = node_there size net stores h now seen k store found

    -- nothing happened at its node
    pub is_idle : IsIdle size net.history k
    is_idle = subst (λ (s : Status (StagedEvent V)). IsPendingStaged size net k s) is_unloaded_store (h.each k its_node.0 store its_node.1 found).pending_staged

    module _ (new : StoreState V) (fails : Fails store (pending_change (pending_of store.status)) store.status new) where
      stays_so : new.status ≡ unloaded
      stays_so = ap (λ (s : StoreState V). s.status) fails.rest ∙ is_unloaded_store

      -- if the load fails, the net and the stores are still a switch
      pub failed_switch : IsSwitch size net (set stores k new)
      failed_switch = other_store size net stores h k its_node.0 store new its_node.1 found record {
        fits = subst (λ (s : Status (StagedEvent V)). IsRecordOf its_node.0 s new.kept) (sym stays_so) tt;
        pending_staged = subst (λ (s : Status (StagedEvent V)). IsPendingStaged size net k s) (sym stays_so) is_idle;
      }

      -- in which the node stays unloaded
      pub failed_view : StaysUnloaded now (switch_view net (set stores k new)) k
      failed_view = subst (λ (s : SwitchView V). StaysUnloaded s (switch_view net (set stores k new)) k) seen record {
        view = view_of store;
        at = view_at stores k store found;
        fails = record {
          kept = new.kept;
          either = subst (λ (s : Status (StagedEvent V)). IsWithOrWithout store.kept (pending_change (pending_of s)) new.kept) is_unloaded_store fails.kept;
          rest = ap (λ (ps : List (StoreView V)). let s : SwitchView V = record { weights = net.history.weights; event_limit = net.history.event_limit; begins = net.history.begins; history = net.history.events; stores = ps } in s) (views_of-set stores k new)
              ∙ ap (λ (s : StoreState V). with_store (switch_view net stores) k (view_of s)) fails.rest
              ∙ ap (λ (s : Status (StagedEvent V)). with_store (switch_view net stores) k record { kept = new.kept; failures = store.failures + 1; status = status_view s; in_group = store.in_group }) is_unloaded_store;
        };
      }

    module _ (new : StoreState V) (is_up : new ≡ record (with_pending_change store) { status = up }) (kept : KeptPart V) (loaded : kept ≡ (with_pending_change store).kept) (b : NetView V) (t : BeginsAgain size net b k kept) where
      -- no event was pending, so the record is the one that the keep has
      kept_is : kept ≡ store.kept
      kept_is = loaded ∙ ap (λ (s : Status (StagedEvent V)). changed_by store.kept (pending_change (pending_of s))) is_unloaded_store

      new_is : new ≡ record store { status = up }
      new_is = is_up ∙ ap (λ (s : Status (StagedEvent V)). let r : StoreState V = record store { kept = changed_by store.kept (pending_change (pending_of s)); status = up } in r) is_unloaded_store

      nodes_are : t.world.world.nodes ≡ set h.world.world.nodes k t.core.node
      nodes_are = t.world.nodes ∙ ap (λ (cs : List (Core V)). nodes_of cs) t.cores ∙ nodes_of-set net.cores k t.core ∙ ap (λ (ns : List (Node V)). set ns k t.core.node) (sym h.world.nodes)

      -- an event that another node owes is still staged, and where nothing happened nothing has
      still_pending : (j : ℕ) → k ≢ j → (s : Status (StagedEvent V)) → IsPendingStaged size net j s → IsPendingStaged size b j s
      still_pending j other up o = tt
      still_pending j other (down None) o = tt
      still_pending j other unloaded o = t.idle j o
      still_pending j other (down (Some staged)) o = (
        o.0,
        record {
          core = o.1.core;
          at = ap (λ (cs : List (Core V)). slice_get cs staged.at) t.cores ∙ at_set_other net.cores k staged.at t.core (λ e. other (e ∙ o.0)) ∙ o.1.at;
          ready = o.1.ready;
          has_result = subst (λ (ps : List (Packet V)). HasResult size ps staged.at o.1.core.node staged.event (Ok (step_of staged.work o.1.core.node))) (sym t.packets) o.1.has_result;
          posts = subst (λ (x : History V). AllByRecursion (IsPost (length x.weights)) (posts_of staged.work)) (sym t.history) o.1.posts;
        },
      )

      own_fits : (n : Node V) → slice_get t.world.world.nodes k ≡ Some n → StoreFitsNode size b k n new
      own_fits n there =
          let both : Some t.core.node ≡ Some n = sym (at_set h.world.world.nodes k t.core.node its_node.0 its_node.1) ∙ sym (ap (λ (ns : List (Node V)). slice_get ns k) nodes_are) ∙ there in
          let same : t.core.node ≡ n = cc in
          let own : kept ≡ kept_of n = ap (λ (m : Node V). kept_of m) (sym t.node ∙ same) in
          subst (λ (s : StoreState V). StoreFitsNode size b k n s) (sym new_is) record { fits = sym kept_is ∙ own; pending_staged = tt }

      other_fits : (j : ℕ) (n : Node V) (s : StoreState V) → k ≢ j → slice_get t.world.world.nodes j ≡ Some n → slice_get stores j ≡ Some s → StoreFitsNode size b j n s
      other_fits j n s other there is_s =
          let at_j : slice_get h.world.world.nodes j ≡ Some n = sym (at_set_other h.world.world.nodes k j t.core.node other) ∙ sym (ap (λ (ns : List (Node V)). slice_get ns j) nodes_are) ∙ there in
          let own = h.each j n s at_j is_s in
          record { fits = own.fits; pending_staged = still_pending j other s.status own.pending_staged }

      -- once it is loaded, the net and the stores are a switch
      pub again_switch : IsSwitch size b (set stores k new)
      again_switch = record {
        world = t.world;
        count = length-set stores k new ∙ h.count ∙ sym (ap (λ (cs : List (Core V)). length cs) t.cores ∙ length-set net.cores k t.core);
        each = each_after t.world.world.nodes stores (λ j n s. StoreFitsNode size b j n s) k store new found own_fits other_fits;
      }

      -- in which the node is up with its record
      pub again_view : IsLoadedAgain size now (switch_view b (set stores k new)) k
      again_view = subst (λ (s : SwitchView V). IsLoadedAgain size s (switch_view b (set stores k new)) k) seen record {
        view = view_of store;
        at = view_at stores k store found;
        rest = view_is_same _ _ _ _ _ _ _ _ _ _ (ap (λ (x : History V). x.weights) t.history) (ap (λ (x : History V). x.event_limit) t.history)
            (ap (λ (x : History V). x.begins) t.history ∙ ap (λ (p : KeptPart V). set net.history.begins k p) kept_is) (ap (λ (x : History V). x.events) t.history)
            (views_of-set stores k new ∙ ap (λ (s : StoreState V). set (views_of stores) k (view_of s)) new_is);
        world = t.world.world;
        is_after = t.world.is_after;
        stores = stores_are size b (set stores k new) again_switch (switch_view b (set stores k new)) refl t.world.world t.world.is_after;
        logs = t.logs;
      }
