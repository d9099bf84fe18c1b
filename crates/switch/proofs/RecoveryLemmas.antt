-- The restart of a node that is down: the event that it owes is taken first.
use Rattle.switch.proofs.Words.{◌≡◌, ◌≢◌, ℕ, ◌+◌, ◌<◌, ◌≤◌, true, false, List, [], ◌∷◌, ◌++◌, length, get_or, set, slice_get, inl, inr, Option, Some, None, Result, Ok, Err, refl, ap, sym, ◌∙◌, subst, arith, length-append, AllByRecursion, option_map, ForOk, length-set, slice_get_read, Packet, Ask, Change, IsPost, to_others, KeptPart, changed_by, Node, StepResult, kept_of, Core, reloaded, restarted, Event, Restart, StepFault, Memory, Device, World, packets_after, History, world_of_taken, kept_part, StagedWork, steps, restarts, StagedEvent, NetView, HasSpareCapacity, IsStaged, IsReadyAt, IsOfEvent, IsEventAt, HasResult, IsTaken, posts_of, step_of, with_loaded, with_record, at_set, set_twice, comes_restart, set_same, Status, up, down, StoreState, pending_of, pending_change, pending_posts, IsRecordOf, IsWithOrWithout, Fails, StoreView, SwitchView, pending_event, status_view, view_of, views_of, IsPendingStaged, StoreFitsNode, IsSwitch, CanCommitPending, CommitsPending, world_of, is_down_at, is_unloaded_at, pending_events, with_store, IsRecoveryOutcome, IsEffectOfRecovery}
use Rattle.switch.proofs.KeepLemmas.{either_twice}
use Rattle.switch.proofs.StoresLemmas.{views_of-set, view_at, item_at, down_at, few_staged}
use Rattle.switch.proofs.SwitchLemmas.{switch_view, core_node, own_number, own_weights, other_store, at, node_is, committed}
use Rattle.switch.proofs.CallLemmas.{view_is_same, of_world}
use Rattle.switch.proofs.LoadLemmas.{load_posts}
use Rattle.switch.proofs.OwedLemmas.{owed_change, can_take, owed_taken}

-- The switch before, with stores and net as they are when the keep is called.
module _ {V : Type 0} (size : V → ℕ) (net : NetView V) (stores : List (StoreState V)) (h : IsSwitch size net stores) (now : SwitchView V) (seen : switch_view net stores ≡ now)
    (d1 : StagedEvent V) (d : IsStaged size net d1) (j : ℕ) (is_e : d1.event ≡ Restart j) (kind : IsOfEvent (Restart j) d1.work) (k : ℕ) (is_at : k ≡ d1.at) (store : StoreState V) (is : store ≡ get_or stores k store) (low_k : k < length stores)
    (test : is_down_at now.stores (Some j) ≡ true) (loaded : is_unloaded_at now.stores j ≡ false) (room : length net.history.events + 2 ≤ net.history.event_limit) where
  abbrev w : World V
  w = h.world.world

  abbrev old : SwitchView V
  old = switch_view net stores

  -- the result of the restart at its node is the step that was readied
  at_e : IsEventAt size w d1.at (Restart j) (Ok (step_of d1.work d.core.node))
  at_e = subst (λ (f : Event V). IsEventAt size w d1.at f (Ok (step_of d1.work d.core.node))) is_e (at size net stores h d1 d)

  -- the node that restarts is the one whose store was found
  is_j : j ≡ k
  is_j = let both : Some j ≡ Some d1.at = at_e.node in let same : j ≡ d1.at = cc in same ∙ sym is_at

  -- the store that was read is the one of this node
  found : slice_get stores k ≡ Some store
  found = slice_get_read stores (length stores) k store refl low_k is

  -- the node at which the restart is staged is in the world
  node_k : slice_get w.nodes k ≡ Some d.core.node
  node_k = ap (λ (i : ℕ). slice_get w.nodes i) is_at ∙ node_is size net stores h d1 d

  -- the record of the keep and the pending event fit this node
  own : StoreFitsNode size net k d.core.node store
  own = h.each k d.core.node store node_k found

  -- the store is down, and may owe an event
  is_down : (o : Option (StagedEvent V)) × (store.status ≡ down o)
  is_down = down_at stores k store found (ap (λ (i : ℕ). is_down_at (views_of stores) (Some i)) (sym is_j) ∙ ap (λ (s : SwitchView V). is_down_at s.stores (Some j)) seen ∙ test)
      (ap (λ (i : ℕ). is_unloaded_at (views_of stores) i) (sym is_j) ∙ ap (λ (s : SwitchView V). is_unloaded_at s.stores j) seen ∙ loaded)

  -- so it is not up
  pub not_up : store.status ≢ up
  not_up e = let never : down is_down.0 ≡ up = sym is_down.1 ∙ e in cc

  abbrev o : Option (StagedEvent V)
  o = is_down.0

  -- o is the event that the store owes
  owed_is : pending_of store.status ≡ o
  owed_is = ap (λ (s : Status (StagedEvent V)). pending_of s) is_down.1

  -- the record of the keep is that of the node, with or without the change of the pending event
  fits : IsRecordOf d.core.node (down o) store.kept
  fits = subst (λ (s : Status (StagedEvent V)). IsRecordOf d.core.node s store.kept) is_down.1 own.fits

  -- the pending event is staged at the node
  pending_staged : IsPendingStaged size net k (down o)
  pending_staged = subst (λ (s : Status (StagedEvent V)). IsPendingStaged size net k s) is_down.1 own.pending_staged

  -- if the restart recovers the node in the view of this store, it does so in the view of the
  -- switch
  of_view : (new : SwitchView V) (result : Result ℕ StepFault) → IsRecoveryOutcome size w old new j (view_of store) (pending_event o) result
      → ForOk (world_of size now) (λ x. (view : StoreView V) → slice_get now.stores j ≡ Some view → (e : Option (Event V)) → view.status ≡ down e → IsEffectOfRecovery size x now new j view e result)
  of_view new result recovers = of_world size net stores h now seen (λ s x. (view : StoreView V) → slice_get s.stores j ≡ Some view → (e : Option (Event V)) → view.status ≡ down e → IsEffectOfRecovery size x s new j view e result)
      (λ view at_j e stands.
      let views : Some (view_of store) ≡ Some view = sym (view_at stores k store found) ∙ ap (λ (i : ℕ). slice_get (views_of stores) i) (sym is_j) ∙ at_j in
      let is_view : view_of store ≡ view = cc in
      let stand : down (pending_event o) ≡ down e = sym (ap (λ (s : Status (StagedEvent V)). status_view s) is_down.1) ∙ ap (λ (p : StoreView V). p.status) is_view ∙ stands in
      let is_f : pending_event o ≡ e = cc in
      record {
        spent = λ spent. absurd (omega (arith, spent, room));
        recovered = λ le. subst (λ (f : Option (Event V)). IsRecoveryOutcome size w old new j view f result) is_f (subst (λ (p : StoreView V). IsRecoveryOutcome size w old new j p (pending_event o) result) is_view recovers);
      })

  -- if there is no memory, Memory is the right answer
  pub no_memory : (new : SwitchView V) → new ≡ old → ForOk (world_of size now) (λ x. (view : StoreView V) → slice_get now.stores j ≡ Some view → (e : Option (Event V)) → view.status ≡ down e → IsEffectOfRecovery size x now new j view e (Err Memory))
  no_memory new same = of_view new (Err Memory) (inl (
    refl,
    record {
      kept = store.kept;
      either = inl refl;
      rest = same ∙ ap (λ (ps : List (StoreView V)). let s : SwitchView V = record { weights = net.history.weights; event_limit = net.history.event_limit; begins = net.history.begins; history = net.history.events; stores = ps } in s)
          (sym (set_same (views_of stores) j (view_of store) (ap (λ (i : ℕ). slice_get (views_of stores) i) is_j ∙ view_at stores k store found)));
    },
  ))

  -- A call of the keep failed.
  module _ (new : StoreState V) (fails : Fails store (pending_change (pending_of store.status)) store.status new) where
    -- the record of the keep is the one before, with or without the change of the pending event
    either : IsWithOrWithout store.kept (pending_change o) new.kept
    either = subst (λ (p : Option (StagedEvent V)). IsWithOrWithout store.kept (pending_change p) new.kept) owed_is fails.kept

    -- the store is down as before
    stands : new.status ≡ down o
    stands = ap (λ (s : StoreState V). s.status) fails.rest ∙ is_down.1

    -- the net and the stores are still a switch
    pub stays_down : IsSwitch size net (set stores k new)
    stays_down = other_store size net stores h k d.core.node store new node_k found record {
      fits = subst (λ (s : Status (StagedEvent V)). IsRecordOf d.core.node s new.kept) (sym stands) (either_twice (kept_of d.core.node) store.kept new.kept (pending_change o) fits either);
      pending_staged = subst (λ (s : Status (StagedEvent V)). IsPendingStaged size net k s) (sym stands) pending_staged;
    }

    -- Device is the right answer to the restart, and the node stays down
    pub stays_acts : ForOk (world_of size now) (λ x. (view : StoreView V) → slice_get now.stores j ≡ Some view → (e : Option (Event V)) → view.status ≡ down e → IsEffectOfRecovery size x now (switch_view net (set stores k new)) j view e (Err Device))
    stays_acts = of_view (switch_view net (set stores k new)) (Err Device) (inr (
      refl,
      record {
        kept = new.kept;
        either = subst (λ (c : Option (Change V)). IsWithOrWithout store.kept c new.kept) (owed_change size net stores h k o pending_staged) either;
        rest = ap (λ (ps : List (StoreView V)). let s : SwitchView V = record { weights = net.history.weights; event_limit = net.history.event_limit; begins = net.history.begins; history = net.history.events; stores = ps } in s) (views_of-set stores k new)
            ∙ ap (λ (s : StoreState V). with_store old k (view_of s)) fails.rest
            ∙ ap (λ (i : ℕ). with_store old i record { kept = new.kept; failures = store.failures + 1; status = status_view store.status; in_group = store.in_group }) (sym is_j);
      },
    ))

  -- the pending event can be taken, if there is room for its posts and two events
  pub can_commit_owed : (pending : Option (StagedEvent V)) → pending ≡ pending_of store.status → (posts more : ℕ) → posts ≡ length (pending_posts (pending_of store.status)) → HasSpareCapacity net (posts + more) 2 → CanCommitPending size net pending
  can_commit_owed pending is_owed posts more count r =
      subst (λ (p : Option (StagedEvent V)). CanCommitPending size net p) (sym (is_owed ∙ owed_is))
      (can_take size net stores h k room o pending_staged more (subst (λ (i : ℕ). HasSpareCapacity net (i + more) 2) (count ∙ ap (λ (p : Option (StagedEvent V)). length (pending_posts p)) owed_is) r))

  -- The keep has made the change of the pending event, and the event is taken.
  module _ (new : StoreState V) (repaired : new ≡ record store { kept = changed_by store.kept (pending_change (pending_of store.status)); status = up }) (m : NetView V) (pending : Option (StagedEvent V)) (is_owed : pending ≡ pending_of store.status)
      (takes : CommitsPending net m pending) where
    -- the record of the keep is the one before with the change of the pending event
    new_kept_is : new.kept ≡ changed_by store.kept (pending_change o)
    new_kept_is = ap (λ (s : StoreState V). s.kept) repaired ∙ ap (λ (p : Option (StagedEvent V)). changed_by store.kept (pending_change p)) owed_is

    -- the store is up
    new_up : new.status ≡ up
    new_up = ap (λ (s : StoreState V). s.status) repaired

    -- the event that was taken is the pending one
    takes_o : CommitsPending net m o
    takes_o = subst (λ (p : Option (StagedEvent V)). CommitsPending net m p) (is_owed ∙ owed_is) takes

    abbrev mid : (switch : IsSwitch size m (set stores k new)) × (m.history.weights ≡ net.history.weights) × (m.history.events ≡ net.history.events ++ pending_events (pending_event o)) × (m.packets ≡ net.packets ++ pending_posts o)
        × (net.packet_capacity ≤ m.packet_capacity) × (net.event_capacity ≤ m.event_capacity) × (m.history.event_limit ≡ net.history.event_limit) × (m.history.begins ≡ net.history.begins)
    mid = owed_taken size net stores h k d.core.node store new node_k found new_up room m o pending_staged fits new_kept_is takes_o

    abbrev hm : IsSwitch size m (set stores k new)
    hm = mid.0

    -- the net still has a core at this number
    core_m : (c : Core V) × (slice_get m.cores k ≡ Some c)
    core_m = item_at m.cores k (let count = hm.count in let l = length-set stores k new in let low = low_k in omega (arith, count, l, low))

    -- the world after the pending event has the node of this core
    node_m : slice_get hm.world.world.nodes k ≡ Some core_m.0.node
    node_m = core_node size m (set stores k new) hm k core_m.0 core_m.1

    -- its store is the new one
    new_at : slice_get (set stores k new) k ≡ Some new
    new_at = at_set stores k new store found

    -- the record of the keep is the kept part of this node
    kept_m : new.kept ≡ kept_of core_m.0.node
    kept_m = subst (λ (s : Status (StagedEvent V)). IsRecordOf core_m.0.node s new.kept) new_up (hm.each k core_m.0.node new node_m new_at).fits

    -- the history has room for the restart after the pending event
    pub low_m : length m.history.events < m.history.event_limit
    low_m =
        let count = ap (λ (es : List (Event V)). length es) mid.2 in
        let more = length-append net.history.events (pending_events (pending_event o)) in
        let one = few_staged (pending_event o) in
        let limit = mid.6 in
        omega (arith, count, more, one, room, limit)

    -- the posts of the restart ask all other nodes for the first entry
    asks : (work : StagedWork V) → IsOfEvent (Restart j) work → IsReadyAt d.core work → posts_of work ≡ to_others k m.history.weights (Ask 0)
    asks (steps made) q r = elim q [ ]
    asks (restarts posts None) q r =
        r ∙ ap (λ (i : ℕ). to_others i d.core.node.weights (Ask 0)) (own_number size net stores h k d.core.node node_k)
        ∙ ap (λ (us : List ℕ). to_others k us (Ask 0)) (own_weights size net stores h k d.core.node node_k ∙ sym mid.1)
    asks (restarts posts (Some x)) q r = cc

    -- the restart is ready at this node with the record of its keep loaded
    ready_then : (work : StagedWork V) (kept : KeptPart V) → IsOfEvent (Restart j) work → posts_of work ≡ to_others k m.history.weights (Ask 0) → kept ≡ new.kept → IsReadyAt core_m.0 (with_loaded work kept)
    ready_then (steps made) kept q r same = elim q [ ]
    ready_then (restarts posts loaded) kept q r same = (
      r ∙ ap (λ (i : ℕ). to_others i m.history.weights (Ask 0)) (sym (own_number size m (set stores k new) hm k core_m.0.node node_m))
          ∙ ap (λ (us : List ℕ). to_others core_m.0.node.me us (Ask 0)) (sym (own_weights size m (set stores k new) hm k core_m.0.node node_m)),
      same ∙ kept_m,
    )

    -- the step is that of a restart of this node
    step_then : (work : StagedWork V) (kept : KeptPart V) → IsOfEvent (Restart j) work → kept ≡ new.kept → restarted core_m.0.node ≡ step_of (with_loaded work kept) core_m.0.node
    step_then (steps made) kept q same = elim q [ ]
    step_then (restarts posts loaded) kept q same = ap (λ (x : KeptPart V). reloaded core_m.0.node x) (sym (same ∙ kept_m))

    module _ (kept : KeptPart V) (same_kept : kept ≡ changed_by store.kept (pending_change (pending_of store.status))) where
      -- the loaded record is the one of the keep
      is_new_kept : kept ≡ new.kept
      is_new_kept = same_kept ∙ sym (ap (λ (s : StoreState V). s.kept) repaired)

      abbrev d2 : StagedEvent V
      d2 = with_record d1 kept

      -- the restart with that record is staged at this node
      pub staged_m : IsStaged size m d2
      staged_m = record {
        core = core_m.0;
        at = ap (λ (i : ℕ). slice_get m.cores i) (sym is_at) ∙ core_m.1;
        ready = ready_then d1.work kept kind (asks d1.work kind d.ready) is_new_kept;
        has_result = subst (λ (i : ℕ). HasResult size m.packets i core_m.0.node d1.event (Ok (step_of (with_loaded d1.work kept) core_m.0.node))) (is_j ∙ is_at)
            (subst (λ (f : Event V). HasResult size m.packets j core_m.0.node f (Ok (step_of (with_loaded d1.work kept) core_m.0.node))) (sym is_e)
            (subst (λ (s : StepResult V). HasResult size m.packets j core_m.0.node (Restart j) (Ok s)) (step_then d1.work kept kind is_new_kept) (comes_restart size m.packets j core_m.0.node)));
        posts = subst (λ (ps : List (Packet V)). AllByRecursion (IsPost (length m.history.weights)) ps) (sym (load_posts d1.work kept)) (subst (λ (us : List ℕ). AllByRecursion (IsPost (length us)) (posts_of d1.work)) (sym mid.1) d.posts);
      }

      -- there is room for the posts of the restart and one event
      pub room_m : (posts more : ℕ) → posts ≡ length (pending_posts (pending_of store.status)) → more ≡ length (posts_of d1.work) → HasSpareCapacity net (posts + more) 2 → HasSpareCapacity m (length (posts_of d2.work)) 1
      room_m posts more count all r =
          let p = ap (λ (x : Option (StagedEvent V)). length (pending_posts x)) owed_is in
          let l = ap (λ (ps : List (Packet V)). length ps) mid.3 in
          let q = length-append net.packets (pending_posts o) in
          let e = ap (λ (es : List (Event V)). length es) mid.2 in
          let g = length-append net.history.events (pending_events (pending_event o)) in
          let one = few_staged (pending_event o) in
          let then = ap (λ (ps : List (Packet V)). length ps) (load_posts d1.work kept) in
          let a = mid.4 in
          let b = mid.5 in
          let r1 = r.for_packets in
          let r2 = r.for_events in
          record { for_packets = omega (arith, p, l, q, then, a, r1, count, all); for_events = omega (arith, e, g, one, b, r2) }

      module _ (z : NetView V) (t : IsTaken m z d2) where
        -- after the restart the kept part of the node is the record of its keep
        kept_then : (work : StagedWork V) (n : Node V) → IsOfEvent (Restart j) work → new.kept ≡ kept_of (step_of (with_loaded work kept) n).node
        kept_then (steps made) n q = elim q [ ]
        kept_then (restarts posts loaded) n q = sym is_new_kept

        -- setting the same store once more changes nothing
        stores_same : set (set stores k new) d1.at new ≡ set stores k new
        stores_same = ap (λ (i : ℕ). set (set stores k new) i new) (sym is_at) ∙ set_twice stores k new new

        -- once the restart is taken too, the net and the stores are a switch
        pub recovered : IsSwitch size z (set stores k new)
        recovered = subst (λ (us : List (StoreState V)). IsSwitch size z us) stores_same
            (committed size m (set stores k new) hm d2 staged_m low_m z t new new (ap (λ (i : ℕ). slice_get (set stores k new) i) (sym is_at) ∙ new_at) (kept_then d1.work staged_m.core.node kind) new_up)

        -- the count of packets is the right answer to the restart, and the node is up
        pub recovered_acts : (count : ℕ) → count ≡ length (packets_after (world_of_taken size z.history))
            → ForOk (world_of size now) (λ x. (view : StoreView V) → slice_get now.stores j ≡ Some view → (e : Option (Event V)) → view.status ≡ down e → IsEffectOfRecovery size x now (switch_view z (set stores k new)) j view e (Ok count))
        recovered_acts count counted =
            let x = recovered.world.world in
            let weights : z.history.weights ≡ net.history.weights = ap (λ (y : History V). y.weights) t.history ∙ mid.1 in
            let limit : z.history.event_limit ≡ net.history.event_limit = ap (λ (y : History V). y.event_limit) t.history ∙ mid.6 in
            let history : z.history.events ≡ net.history.events ++ pending_events (pending_event o) ++ Restart j ∷ [] =
            ap (λ (y : History V). y.events) t.history ∙ ap (λ (es : List (Event V)). es ++ d1.event ∷ []) mid.2 ∙ ap (λ (f : Event V). net.history.events ++ pending_events (pending_event o) ++ f ∷ []) is_e in
            let begins : z.history.begins ≡ net.history.begins = ap (λ (y : History V). y.begins) t.history ∙ mid.7 in
            let whole : z.history ≡ (let y : History V = record { weights = net.history.weights; event_limit = net.history.event_limit; begins = net.history.begins; events = net.history.events ++ pending_events (pending_event o) ++ Restart j ∷ [] } in y) = cc in
            let low_z : k < length z.cores = (let c = recovered.count in let l = length-set stores k new in let low = low_k in omega (arith, c, l, low)) in
            let c = item_at z.cores k low_z in
            let node_z = core_node size z (set stores k new) recovered k c.0 c.1 in
            let fits_z : new.kept ≡ kept_of c.0.node = subst (λ (s : Status (StagedEvent V)). IsRecordOf c.0.node s new.kept) new_up (recovered.each k c.0.node new node_z new_at).fits in
            of_view (switch_view z (set stores k new)) (Ok count) record {
              world = x;
              is_after = subst (λ (y : History V). world_of_taken size y ≡ Ok x) whole recovered.world.is_after;
              counted = counted ∙ ap (λ (r : Result (World V) StepFault). length (packets_after r)) recovered.world.is_after;
              kept = new.kept;
              is_kept = ap (λ (i : ℕ). kept_part x i) is_j ∙ ap (λ (n : Option (Node V)). option_map kept_of n) node_z ∙ ap (λ (y : KeptPart V). let p : Option (KeptPart V) = Some y in p) (sym fits_z);
              rest = view_is_same _ _ _ _ _ _ _ _ _ _ weights limit begins history
                  (views_of-set stores k new ∙ ap (λ (i : ℕ). set (views_of stores) i (view_of new)) (sym is_j)
                  ∙ ap (λ (s : StoreState V). set (views_of stores) j (let p : StoreView V = record { kept = new.kept; failures = s.failures; status = status_view s.status; in_group = s.in_group } in p)) repaired);
            }
