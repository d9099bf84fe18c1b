-- The answer of a call on one node, in the world after the history; contracts see only the fields.
use Rattle.switch.proofs.Words.{◌≡◌, ℕ, ◌+◌, ◌<◌, false, List, [], ◌∷◌, ◌++◌, length, set, slice_get, inl, inr, Option, Some, None, Result, Ok, Err, refl, ap, sym, ◌∙◌, subst, arith, IfErr, OnOk, IsOkUnless, ForOk, slice_get_within, Packet, Change, KeptPart, changed_by, Node, StepResult, kept_of, Event, StepFault, Memory, Device, World, after_step, event_result, packets_after, History, world_of_taken, node_of_event, node_of, change_of, StagedEvent, NetView, IsStaged, IsEventAt, ChangesOnlyCapacity, IsTaken, change_in, step_of, after-push, length-nodes_of, Status, up, down, unloaded, StoreState, IsRecordOf, IsWithOrWithout, Fails, pending_change, StoreView, SwitchView, pending_event, status_view, view_of, views_of, IsPendingStaged, IsIdle, IsSwitch, UnloadedAreIdle, world_of, IsRecordIn, ViewFitsNode, AreStores, is_down_at, with_store, pending_on_failure, IsOutcomeAt, IsEffectUnlessDown, with_event}
use Rattle.switch.proofs.StoresLemmas.{views_of-set, view_at, view_past, item_at, up_at}
use Rattle.switch.proofs.SwitchLemmas.{switch_view, other_store, committed, node_is, at, happens_is, change_is, change_told, changes}

-- views of a switch with equal parts are equal
pub view_is_same : {V : Type 0} (ws us : List ℕ) (l m : ℕ) (bs cs : List (KeptPart V)) (hs gs : List (Event V)) (some others : List (StoreView V)) → ws ≡ us → l ≡ m → bs ≡ cs → hs ≡ gs → some ≡ others
    → let s : SwitchView V = record { weights = ws; event_limit = l; begins = bs; history = hs; stores = some } in s ≡ record { weights = us; event_limit = m; begins = cs; history = gs; stores = others }
view_is_same ws us l m bs cs hs gs some others weights limit begins history stores = cc

-- if only rooms change, the view of the switch stays the same
pub still_view : {V : Type 0} (a b : NetView V) (stores : List (StoreState V)) → ChangesOnlyCapacity a b → switch_view b stores ≡ switch_view a stores
still_view {V} a b stores only_capacity = ap (λ (t : History V). let s : SwitchView V = record { weights = t.weights; event_limit = t.event_limit; begins = t.begins; history = t.events; stores = views_of stores } in s) only_capacity.history

module _ {V : Type 0} (size : V → ℕ) (net : NetView V) (stores : List (StoreState V)) (h : IsSwitch size net stores) (now : SwitchView V) (seen : switch_view net stores ≡ now) where
  abbrev w : World V
  w = h.world.world

  abbrev old : SwitchView V
  old = switch_view net stores

  -- a fact of the view and the world of the fields holds of every world after the history of the
  -- view
  pub of_world : (P : SwitchView V → World V → Type 0) → P old w → ForOk (world_of size now) (λ x. P now x)
  of_world P p = λ x d.
      let both : Ok w ≡ Ok x = sym h.world.is_after ∙ ap (λ (s : SwitchView V). world_of size s) seen ∙ d in
      let same : w ≡ x = cc in
      subst (λ (y : World V). P now y) same (subst (λ (s : SwitchView V). P s w) seen p)

  -- the history of the view leads to the world of the fields
  pub after_is : world_of size now ≡ Ok w
  after_is = ap (λ (s : SwitchView V). world_of size s) (sym seen) ∙ h.world.is_after

  -- the world after the history with one more event is the result of the event in this world
  next_is : (e : Event V) → world_of_taken size (with_event net.history e) ≡ event_result size w e
  next_is e = after-push size net.history w e h.world.is_after

  -- the node of an event is the same by the packets of the fields and in the world
  pub node_seen : (e : Event V) (o : Option ℕ) → o ≡ node_of_event net.packets e → ForOk (world_of size now) (λ x. node_of x e ≡ o)
  node_seen e o is = of_world (λ s x. node_of x e ≡ o) (ap (λ (ps : List (Packet V)). node_of_event ps e) h.world.posted ∙ sym is)

  -- Each node has its store.

  -- each node has a store
  pub store_there : (k : ℕ) (n : Node V) → slice_get w.nodes k ≡ Some n → (store : StoreState V) × (slice_get stores k ≡ Some store)
  store_there k n node = item_at stores k
      (let low = slice_get_within w.nodes k n node in
      let count = h.count in
      let nodes = ap (λ (ns : List (Node V)). length ns) h.world.nodes in
      let cores = length-nodes_of net.cores in
      omega (arith, low, count, nodes, cores))

  -- each store has a node
  pub node_there : (k : ℕ) (store : StoreState V) → slice_get stores k ≡ Some store → (n : Node V) × (slice_get w.nodes k ≡ Some n)
  node_there k store is = item_at w.nodes k
      (let low = slice_get_within stores k store is in
      let count = h.count in
      let nodes = ap (λ (ns : List (Node V)). length ns) h.world.nodes in
      let cores = length-nodes_of net.cores in
      omega (arith, low, count, nodes, cores))

  -- if the record of a keep fits its node, it also fits by the change that the world gives for the
  -- pending event
  record_in : (n : Node V) (k : ℕ) (s : Status (StagedEvent V)) (kept : KeptPart V) → IsRecordOf n s kept → IsPendingStaged size net k s → IsRecordIn size w n (status_view s) kept
  record_in n k up kept fits pending_staged = fits
  record_in n k (down None) kept fits pending_staged = fits
  record_in n k unloaded kept fits pending_staged = tt
  record_in n k (down (Some o)) kept fits pending_staged = subst (λ (c : Option (Change V)). IsWithOrWithout (kept_of n) c kept) (change_told size net stores h o pending_staged.1) fits

  -- at each number there are a node and its view, or neither
  store_seen : (k : ℕ) (o : Option (Node V)) → slice_get w.nodes k ≡ o → (p : Option (StoreState V)) → slice_get stores k ≡ p → ViewFitsNode size w (slice_get w.nodes k) (slice_get (views_of stores) k)
  store_seen k (Some n) node (Some store) is =
      subst (λ (o : Option (Node V)). ViewFitsNode size w o (slice_get (views_of stores) k)) (sym node)
      (subst (λ (o : Option (StoreView V)). ViewFitsNode size w (Some n) o) (sym (view_at stores k store is))
      (let mine = h.each k n store node is in record_in n k store.status store.kept mine.fits mine.pending_staged))
  store_seen k None none (Some store) is = let n = node_there k store is in let no : None ≡ Some n.0 = sym none ∙ n.1 in cc
  store_seen k (Some n) node None none = let store = store_there k n node in let no : None ≡ Some store.0 = sym none ∙ store.1 in cc
  store_seen k None nowhere None none =
      subst (λ (o : Option (Node V)). ViewFitsNode size w o (slice_get (views_of stores) k)) (sym nowhere)
      (subst (λ (o : Option (StoreView V)). ViewFitsNode size w None o) (sym (view_past stores k none)) tt)

  -- the views are those of the world after the history
  pub stores_are : ForOk (world_of size now) (λ x. AreStores size x now.stores)
  stores_are = of_world (λ s x. AreStores size x s.stores) (λ k. store_seen k (slice_get w.nodes k) refl (slice_get stores k) refl)

  -- nothing happened at a store that is unloaded
  idle_in : (k : ℕ) (s : Status (StagedEvent V)) → IsPendingStaged size net k s → status_view s ≡ unloaded → IsIdle size net.history k
  idle_in k up o is = cc
  idle_in k (down e) o is = cc
  idle_in k unloaded o is = o

  idle_seen : (k : ℕ) (o : Option (StoreState V)) → slice_get stores k ≡ o → (view : StoreView V) → slice_get (views_of stores) k ≡ Some view → view.status ≡ unloaded → IsIdle size net.history k
  idle_seen k None none view at is = let no : None ≡ Some view = sym (view_past stores k none) ∙ at in cc
  idle_seen k (Some store) there view at is =
      let both : Some (view_of store) ≡ Some view = sym (view_at stores k store there) ∙ at in
      let same : view_of store ≡ view = cc in
      let n = node_there k store there in
      idle_in k store.status (h.each k n.0 store n.1 there).pending_staged (ap (λ (p : StoreView V). p.status) same ∙ is)

  pub unloaded_idle : UnloadedAreIdle size now
  unloaded_idle = subst (λ (s : SwitchView V). UnloadedAreIdle size s) seen (λ k view at is. idle_seen k (slice_get stores k) refl view at is)

  -- An event that was not readied.

  module _ (e : Event V) (fault : StepFault) (r : Result (StagedEvent V) StepFault) (is_err : r ≡ Err fault) (new : SwitchView V) (same : new ≡ old) where
    -- if the answer is the fault that the event meets, or Memory if it meets none, the answer is
    -- right at a node that is up
    not_ready : (x : Result (World V) StepFault) → event_result size w e ≡ x → IfErr x (λ met. r ≡ Err met) → OnOk x (IsOkUnless r Memory) → IsEffectUnlessDown size w old new e (Err fault)
    not_ready (Err met) happened refused memory =
        let both : Err met ≡ Err fault = sym refused ∙ is_err in
        let is_met : met ≡ fault = cc in
        record {
          refused = λ other d. (let told : Err met ≡ Err other = sym happened ∙ d in let is_other : met ≡ other = cc in ap (λ (f : StepFault). let a : Result ℕ StepFault = Err f in a) (sym is_met ∙ is_other), same);
          taken = λ x d. let no : Err met ≡ Ok x = sym happened ∙ d in cc;
        }
    not_ready (Ok y) happened refused memory =
        let is_memory : fault ≡ Memory = subst (λ (a : Result (StagedEvent V) StepFault). IsOkUnless a Memory) is_err memory in
        record {
          refused = λ other d. let no : Ok y ≡ Err other = sym happened ∙ d in cc;
          taken = λ x d k node view found. inl (is_memory, same);
        }

    -- the same, with the fault given by the history with the event
    pub ready_fails : IfErr (world_of_taken size (with_event net.history e)) (λ met. r ≡ Err met) → OnOk (world_of_taken size (with_event net.history e)) (IsOkUnless r Memory) → ForOk (world_of size now) (λ x. IsEffectUnlessDown size x now new e (Err fault))
    ready_fails refused memory = of_world (λ s x. IsEffectUnlessDown size x s new e (Err fault))
        (not_ready (event_result size w e) refl (subst (λ (x : Result (World V) StepFault). IfErr x (λ met. r ≡ Err met)) (next_is e) refused) (subst (λ (x : Result (World V) StepFault). OnOk x (IsOkUnless r Memory)) (next_is e) memory))

  -- An event that is staged at a node that is up.

  module _ (d1 : StagedEvent V) (d : IsStaged size net d1) (low : length net.history.events < net.history.event_limit) (e : Event V) (is_e : d1.event ≡ e) (store : StoreState V) (is : slice_get stores d1.at ≡ Some store) where
    abbrev step : StepResult V
    step = step_of d1.work d.core.node

    -- the result of the event at its node is the step
    at_e : IsEventAt size w d1.at e (Ok step)
    at_e = subst (λ (f : Event V). IsEventAt size w d1.at f (Ok step)) is_e (at size net stores h d1 d)

    -- the world after the event is this world with the step made
    happens_e : event_result size w e ≡ Ok (after_step w d1.at step)
    happens_e = ap (λ (f : Event V). event_result size w f) (sym is_e) ∙ happens_is size net stores h d1 d low

    -- if the node of the event is not down in the view, its store is up
    pub is_up_at : is_down_at now.stores (node_of w e) ≡ false → store.status ≡ up
    is_up_at test = up_at stores d1.at store is (ap (λ (o : Option ℕ). is_down_at (views_of stores) o) (sym at_e.node) ∙ ap (λ (s : SwitchView V). is_down_at s.stores (node_of w e)) seen ∙ test)

    module _ (is_up : store.status ≡ up) where
      -- the record of its keep is the kept part of the node
      pub kept_up : store.kept ≡ kept_of d.core.node
      kept_up = subst (λ (s : Status (StagedEvent V)). IsRecordOf d.core.node s store.kept) is_up (h.each d1.at d.core.node store (node_is size net stores h d1 d) is).fits

      -- if the event is taken at the node, view and world of the step, its answer is right at a
      -- node that is up
      told : (new : SwitchView V) (result : Result ℕ StepFault) → IsOutcomeAt old new e d1.at (view_of store) (change_in d1.work) (after_step w d1.at step) result → IsEffectUnlessDown size w old new e result
      told new result takes = record {
        refused = λ fault f. let no : Ok (after_step w d1.at step) ≡ Err fault = sym happens_e ∙ f in cc;
        taken = λ x f j node view found.
            let both : Ok (after_step w d1.at step) ≡ Ok x = sym happens_e ∙ f in
            let is_x : after_step w d1.at step ≡ x = cc in
            let nodes : Some d1.at ≡ Some j = sym at_e.node ∙ node in
            let is_j : d1.at ≡ j = cc in
            let views : Some (view_of store) ≡ Some view = sym (view_at stores d1.at store is) ∙ ap (λ (i : ℕ). slice_get (views_of stores) i) is_j ∙ found in
            let is_view : view_of store ≡ view = cc in
            subst (λ (y : World V). IsOutcomeAt old new e j view (change_of size w e) y result) is_x
            (subst (λ (c : Option (Change V)). IsOutcomeAt old new e j view c (after_step w d1.at step) result) (change_is size net stores h d1 d ∙ sym at_e.change)
            (subst (λ (p : StoreView V). IsOutcomeAt old new e j p (change_in d1.work) (after_step w d1.at step) result) is_view
            (subst (λ (i : ℕ). IsOutcomeAt old new e i (view_of store) (change_in d1.work) (after_step w d1.at step) result) is_j takes)));
      }

      -- A call of the keep failed, and o is pending.
      module _ (o : Option (StagedEvent V)) (change : Option (Change V)) (is_change : change ≡ change_in d1.work) (owes : pending_change o ≡ change) (is_staged : pending_event o ≡ pending_on_failure e) (pending_staged : IsPendingStaged size net d1.at (down o)) (new : StoreState V) (fails : Fails store change (down o) new) where
        -- the net and the stores are still a switch
        pub failed : IsSwitch size net (set stores d1.at new)
        failed = other_store size net stores h d1.at d.core.node store new (node_is size net stores h d1 d) is record {
          fits = subst (λ (s : Status (StagedEvent V)). IsRecordOf d.core.node s new.kept) (sym (ap (λ (s : StoreState V). s.status) fails.rest))
              (subst (λ (c : Option (Change V)). IsWithOrWithout (kept_of d.core.node) c new.kept) (sym owes) (subst (λ (k : KeptPart V). IsWithOrWithout k change new.kept) kept_up fails.kept));
          pending_staged = subst (λ (s : Status (StagedEvent V)). IsPendingStaged size net d1.at s) (sym (ap (λ (s : StoreState V). s.status) fails.rest)) pending_staged;
        }

        -- Device is the right answer to the event, and its node is down with the event that it owes
        pub failed_acts : ForOk (world_of size now) (λ x. IsEffectUnlessDown size x now (switch_view net (set stores d1.at new)) e (Err Device))
        failed_acts = of_world (λ s x. IsEffectUnlessDown size x s (switch_view net (set stores d1.at new)) e (Err Device)) (told (switch_view net (set stores d1.at new)) (Err Device) (inr (
          refl,
          record {
            kept = new.kept;
            either = subst (λ (c : Option (Change V)). IsWithOrWithout store.kept c new.kept) is_change fails.kept;
            rest = ap (λ (ps : List (StoreView V)). let s : SwitchView V = record { weights = net.history.weights; event_limit = net.history.event_limit; begins = net.history.begins; history = net.history.events; stores = ps } in s) (views_of-set stores d1.at new)
                ∙ ap (λ (s : StoreState V). with_store old d1.at (view_of s)) fails.rest
                ∙ ap (λ (f : Option (Event V)). with_store old d1.at record { kept = new.kept; failures = store.failures + 1; status = down f; in_group = store.in_group }) is_staged;
          },
        )))

      -- The keep has made the change, and the event is taken.
      module _ (new : StoreState V) (stored : new ≡ record store { kept = changed_by store.kept (change_in d1.work) }) (b : NetView V) (t : IsTaken net b d1) where
        -- the net and the stores are a switch again
        pub played : IsSwitch size b (set stores d1.at new)
        played = committed size net stores h d1 d low b t store new is
            (ap (λ (s : StoreState V). s.kept) stored ∙ ap (λ (k : KeptPart V). changed_by k (change_in d1.work)) kept_up ∙ sym (changes size net stores h d1 d low))
            (ap (λ (s : StoreState V). s.status) stored ∙ is_up)

        -- the world is the one before with the step made
        world_then : world_of_taken size b.history ≡ Ok (after_step w d1.at step)
        world_then = ap (λ (x : History V). world_of_taken size x) t.history ∙ next_is d1.event ∙ happens_is size net stores h d1 d low

        -- the count of packets is the right answer to the event
        pub played_acts : (count : ℕ) → count ≡ length (packets_after (world_of_taken size b.history)) → ForOk (world_of size now) (λ x. IsEffectUnlessDown size x now (switch_view b (set stores d1.at new)) e (Ok count))
        played_acts count counted = of_world (λ s x. IsEffectUnlessDown size x s (switch_view b (set stores d1.at new)) e (Ok count)) (told (switch_view b (set stores d1.at new)) (Ok count) (
          view_is_same _ _ _ _ _ _ _ _ _ _ (ap (λ (x : History V). x.weights) t.history) (ap (λ (x : History V). x.event_limit) t.history) (ap (λ (x : History V). x.begins) t.history) (ap (λ (x : History V). x.events) t.history ∙ ap (λ (f : Event V). net.history.events ++ f ∷ []) is_e)
              (views_of-set stores d1.at new ∙ ap (λ (s : StoreState V). set (views_of stores) d1.at (view_of s)) stored),
          counted ∙ ap (λ (r : Result (World V) StepFault). length (packets_after r)) world_then,
        ))
