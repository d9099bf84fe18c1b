-- A switch after its net or one of its stores has changed.
use Rattle.switch.proofs.Words.{◌≡◌, ◌≢◌, ℕ, zero, suc, ◌<◌, List, [], ◌∷◌, ◌++◌, length, set, slice_get, Option, Some, None, Ok, refl, ap, sym, ◌∙◌, subst, arith, append_assoc, AllByRecursion, option_map, length-set, Packet, Change, IsPost, KeptPart, changed_by, new_kept, Node, StepResult, kept_of, restarted_node, Core, Event, World, start, new_parts, nodes_with, first_world, after_step, event_result, event_result_without_limit, History, new_history, world_of_taken, IsIdle, idle_push, IsOwn, own_after, nodes_of, AreOfWorld, change_of, kept_part, StagedWork, steps, restarts, StagedEvent, change_in, posts_of, step_of, IsEventAt, NetView, EachChangesOnlyCapacity, ChangesOnlyCapacity, IsStaged, IsTaken, at_set, at_set_other, if_taken, Happens, event_moves, taken_count, event_result-not_spent, rooms_stay, same_limit, makes, nodes_of-set, nodes_found, nodes_still, staged_still, posts_same, Status, up, down, unloaded, StoreState, IsRecordOf, SwitchView, views_of, new_stores, IsPendingStaged, StoreFitsNode, IsSwitch, all_append, append-nil, with_event}
use Rattle.switch.proofs.StoresLemmas.{each_after, new_at, count_stores}

abbrev pub switch_view : {V : Type 0} → NetView V → List (StoreState V) → SwitchView V
switch_view net stores = record { weights = net.history.weights; event_limit = net.history.event_limit; begins = net.history.begins; history = net.history.events; stores = views_of stores }

-- if only rooms change, the net is of the same world
still_world : {V : Type 0} (size : V → ℕ) (a b : NetView V) → ChangesOnlyCapacity a b → AreOfWorld size a.history a.cores a.packets → AreOfWorld size b.history b.cores b.packets
still_world {V} size a b only_capacity h =
    subst (λ (t : History V). AreOfWorld size t b.cores b.packets) (sym only_capacity.history)
    (subst (λ (ps : List (Packet V)). AreOfWorld size a.history b.cores ps) (sym only_capacity.packets) (rooms_stay size a.history a.cores a.packets h b.cores (nodes_still a.cores b.cores only_capacity.cores)))

-- if only rooms change, there are as many cores as before
still_count : {V : Type 0} (cs ds : List (Core V)) → EachChangesOnlyCapacity cs ds → length ds ≡ length cs
still_count [] [] h = refl
still_count (c ∷ cs) (d ∷ ds) h = ap suc (still_count cs ds h.2)
still_count [] (d ∷ ds) h = elim h [ ]
still_count (c ∷ cs) [] h = elim h [ ]

-- each node of a world before any event has the kept part of a new node
new_node_at : {V : Type 0} (weights : List ℕ) (j k : ℕ) (ws : List ℕ) (n : Node V) → slice_get (nodes_with weights j (new_parts ws)) k ≡ Some n → kept_of n ≡ new_kept
new_node_at weights j k [] n at = cc
new_node_at {V} weights j zero (w ∷ ws) n at = let same : restarted_node j weights new_kept ≡ n = cc in ap (λ (m : Node V). kept_of m) (sym same)
new_node_at weights j (suc k) (w ∷ ws) n at = new_node_at weights (suc j) k ws n at

-- a net of new nodes and their new stores are a switch
pub starts : {V K : Type 0} (size : V → ℕ) (kept : K → KeptPart V) (failures : K → ℕ) (net : NetView V) (weights : List ℕ) (limit : ℕ) (keeps : List K) (stores : List (StoreState V)) → AreOfWorld size net.history net.cores net.packets
    → net.history ≡ new_history weights limit [] → length net.cores ≡ length net.history.weights → length keeps ≡ length weights → AllByRecursion (λ keep. kept keep ≡ new_kept) keeps → stores ≡ new_stores kept failures keeps → IsSwitch size net stores
starts {V} size kept failures net weights limit keeps stores h is cores count new are = subst (λ (us : List (StoreState V)). IsSwitch size net us) (sym are) record {
  world = h;
  count = count_stores kept failures keeps ∙ count ∙ sym (cores ∙ ap (λ (t : History V). length t.weights) is);
  each = λ k n store at is_store.
      (let s = new_at kept failures keeps new k store is_store in
      let begun : Ok (start weights limit) ≡ Ok h.world = sym (ap (λ (t : History V). world_of_taken size t) is) ∙ h.is_after in
      let same : start weights limit ≡ h.world = cc in
      let fits : kept_of n ≡ new_kept = new_node_at weights 0 k weights n (ap (λ (w : World V). slice_get w.nodes k) same ∙ at) in
      subst (λ (x : StoreState V). StoreFitsNode size net k n x) refl (store_is s.0 s.1 fits));
} where
  store_is : {V : Type 0} {size : V → ℕ} {net : NetView V} {k : ℕ} {n : Node V} {store : StoreState V} → store.kept ≡ new_kept → store.status ≡ up → kept_of n ≡ new_kept → StoreFitsNode size net k n store
  store_is {V} {size} {net} {k} {n} {store} is_new is_up fits = record {
    fits = subst (λ (s : Status (StagedEvent V)). IsRecordOf n s store.kept) (sym is_up) (is_new ∙ sym fits);
    pending_staged = subst (λ (s : Status (StagedEvent V)). IsPendingStaged size net k s) (sym is_up) tt;
  }

module _ {V : Type 0} (size : V → ℕ) (net : NetView V) (stores : List (StoreState V)) (h : IsSwitch size net stores) where
  abbrev w : World V
  w = h.world.world

  -- the world counts the events of the history
  pub taken_is : w.event_count ≡ length net.history.events
  taken_is = taken_count size net.history w h.world.is_after

  -- below the limit of events, the test of the limit leaves the result of an event as it is
  pub has_room : (e : Event V) → length net.history.events < net.history.event_limit → event_result size w e ≡ event_result_without_limit size w e
  has_room e low = event_result-not_spent size w e (let c = taken_is in let limit = same_limit size net.history net.cores net.packets h.world in omega (arith, c, low, limit))

  -- the node of the core at a number is the node of the world at this number
  pub core_node : (k : ℕ) (c : Core V) → slice_get net.cores k ≡ Some c → slice_get w.nodes k ≡ Some c.node
  core_node k c at = ap (λ (ns : List (Node V)). slice_get ns k) h.world.nodes ∙ nodes_found net.cores k c at

  -- there is one world after the history
  pub same_world : (x : World V) → world_of_taken size net.history ≡ Ok x → w ≡ x
  same_world x is = let both : Ok w ≡ Ok x = sym h.world.is_after ∙ is in cc

  -- each node has the weights of the history
  pub own_weights : (k : ℕ) (n : Node V) → slice_get w.nodes k ≡ Some n → n.weights ≡ net.history.weights
  own_weights k n at =
      let own : IsOwn net.history.weights k n = (own_after size net.history.weights net.history.event_limit net.history.begins net.history.events w h.world.is_after).each k n at in own.weights

  -- the node at index k has the number k
  pub own_number : (k : ℕ) (n : Node V) → slice_get w.nodes k ≡ Some n → n.me ≡ k
  own_number k n at =
      let own : IsOwn net.history.weights k n = (own_after size net.history.weights net.history.event_limit net.history.begins net.history.events w h.world.is_after).each k n at in own.me

  -- Only rooms change.

  -- the pending event is still staged
  still_owing : (b : NetView V) → ChangesOnlyCapacity net b → (k : ℕ) (s : Status (StagedEvent V)) → IsPendingStaged size net k s → IsPendingStaged size b k s
  still_owing b only_capacity k up o = tt
  still_owing b only_capacity k (down None) o = tt
  still_owing b only_capacity k (down (Some staged)) o = (o.0, staged_still size net b staged only_capacity o.1)
  still_owing b only_capacity k unloaded o = subst (λ (t : History V). IsIdle size t k) (sym only_capacity.history) o

  -- the net and the stores are still a switch
  pub still_switch : (b : NetView V) → ChangesOnlyCapacity net b → IsSwitch size b stores
  still_switch b only_capacity =
      let there = still_world size net b only_capacity h.world in
      let same : w ≡ there.world = same_world there.world (ap (λ (t : History V). world_of_taken size t) (sym only_capacity.history) ∙ there.is_after) in
      record {
        world = there;
        count = h.count ∙ sym (still_count net.cores b.cores only_capacity.cores);
        each = λ k n store at is.
            (let own = h.each k n store (ap (λ (x : World V). slice_get x.nodes k) same ∙ at) is in
            record { fits = own.fits; pending_staged = still_owing b only_capacity k store.status own.pending_staged });
      }

  -- One store changes.

  -- with a new store that fits its node, the net and the stores are a switch
  pub other_store : (k : ℕ) (n : Node V) (store new : StoreState V) → slice_get w.nodes k ≡ Some n → slice_get stores k ≡ Some store → StoreFitsNode size net k n new → IsSwitch size net (set stores k new)
  other_store k n store new at is own = record {
    world = h.world;
    count = length-set stores k new ∙ h.count;
    each = each_after w.nodes stores (λ j m s. StoreFitsNode size net j m s) k store new is
        (λ m there. (let both : Some n ≡ Some m = sym at ∙ there in let same : n ≡ m = cc in subst (λ (x : Node V). StoreFitsNode size net k x new) same own)) (λ j m s other there is_s. h.each j m s there is_s);
  }

  -- A staged event is taken.

  module _ (staged : StagedEvent V) (d : IsStaged size net staged) where
    abbrev step : StepResult V
    step = step_of staged.work d.core.node

    -- the node at which the event is staged is in the world
    pub node_is : slice_get w.nodes staged.at ≡ Some d.core.node
    node_is = core_node staged.at d.core d.at

    -- the result of the event at this node is the step
    pub at : IsEventAt size w staged.at staged.event (Ok step)
    at = d.has_result w [] (h.world.posted ∙ sym (append-nil net.packets)) node_is

    -- the change of staged work is that of its step at any node
    change_work : (work : StagedWork V) (n : Node V) → change_in work ≡ (step_of work n).change
    change_work (steps made) n = refl
    change_work (restarts posts None) n = refl
    change_work (restarts posts (Some kept)) n = refl

    -- the change of the staged event is that of the step
    pub change_is : change_in staged.work ≡ step.change
    change_is = change_work staged.work d.core.node

    -- the change of the staged event is that of the event in the world
    pub change_told : change_in staged.work ≡ change_of size w staged.event
    change_told = change_is ∙ sym at.change

    module _ (low : length net.history.events < net.history.event_limit) where
      -- below the limit of events, the result of the event is the world with the step made
      pub happens_is : event_result size w staged.event ≡ Ok (after_step w staged.at step)
      happens_is = has_room staged.event low ∙ at.event_result

      -- the step makes this change to the kept part
      pub changes : kept_of step.node ≡ changed_by (kept_of d.core.node) (change_in staged.work)
      changes =
          let k = staged.at in
          let moved : Happens size w k staged.event (after_step w k step) = if_taken (Happens size w k staged.event) (event_result size w staged.event) (after_step w k step) happens_is (event_moves size w k staged.event) in
          let left : kept_part (after_step w k step) k ≡ Some (kept_of step.node) = ap (λ (o : Option (Node V)). option_map kept_of o) (at_set w.nodes k step.node d.core.node node_is) in
          let right : option_map (λ kept. changed_by kept (change_of size w staged.event)) (kept_part w k) ≡ Some (changed_by (kept_of d.core.node) (change_in staged.work)) =
          ap (λ (o : Option (Node V)). option_map (λ kept. changed_by kept (change_of size w staged.event)) (option_map kept_of o)) node_is
          ∙ ap (λ (c : Option (Change V)). let o : Option (KeptPart V) = Some (changed_by (kept_of d.core.node) c) in o) (at.change ∙ sym change_is) in
          let both : Some (kept_of step.node) ≡ Some (changed_by (kept_of d.core.node) (change_in staged.work)) = sym left ∙ moved.own at.node ∙ right in
          cc

      module _ (b : NetView V) (t : IsTaken net b staged) where
        -- the core that took the event is the one at which it was staged
        was_core : t.old_core ≡ d.core
        was_core = let both : Some t.old_core ≡ Some d.core = sym t.at ∙ d.at in cc

        -- its node is now the one after the step
        node_then : t.core.node ≡ step.node
        node_then = t.node ∙ ap (λ (c : Core V). (step_of staged.work c.node).node) was_core

        -- the posts of the step are appended to the packets
        posts_are : b.packets ≡ net.packets ++ step.posts
        posts_are = t.packets ∙ ap (λ (ps : List (Packet V)). net.packets ++ ps) (posts_same d.core staged.work d.ready)

        -- the cores and the packets are of the world after the event
        pub taken_world : AreOfWorld size b.history b.cores b.packets
        taken_world =
            subst (λ (x : History V). AreOfWorld size x b.cores b.packets) (sym t.history)
            (subst (λ (cs : List (Core V)). AreOfWorld size (with_event net.history staged.event) cs b.packets) (sym t.cores)
            (makes size net.history net.cores net.packets h.world low staged.event staged.at t.core step at.event_result b.packets node_then posts_are
            (subst (λ (ps : List (Packet V)). AllByRecursion (IsPost (length net.history.weights)) ps) (sym t.packets) (all_append (IsPost (length net.history.weights)) net.packets (posts_of staged.work) h.world.posts d.posts))))

        -- the nodes of that world are those before, with the one that took the event as the step
        -- leaves it
        nodes_then : taken_world.world.nodes ≡ set w.nodes staged.at step.node
        nodes_then = taken_world.nodes ∙ ap (λ (cs : List (Core V)). nodes_of cs) t.cores ∙ nodes_of-set net.cores staged.at t.core
            ∙ ap (λ (n : Node V). set (nodes_of net.cores) staged.at n) node_then ∙ ap (λ (ns : List (Node V)). set ns staged.at step.node) (sym h.world.nodes)

        -- an event that is staged at another node is still staged
        other_staged : (other : StagedEvent V) → staged.at ≢ other.at → IsStaged size net other → IsStaged size b other
        other_staged other apart o = record {
          core = o.core;
          at = ap (λ (cs : List (Core V)). slice_get cs other.at) t.cores ∙ at_set_other net.cores staged.at other.at t.core apart ∙ o.at;
          ready = o.ready;
          has_result = λ x more e is. o.has_result x (posts_of staged.work ++ more) (e ∙ ap (λ (ps : List (Packet V)). ps ++ more) t.packets ∙ append_assoc net.packets (posts_of staged.work) more) is;
          posts = subst (λ (x : History V). AllByRecursion (IsPost (length x.weights)) (posts_of other.work)) (sym t.history) o.posts;
        }

        -- an event that another node owes is still staged
        other_owing : (j : ℕ) → staged.at ≢ j → (s : Status (StagedEvent V)) → IsPendingStaged size net j s → IsPendingStaged size b j s
        other_owing j apart up o = tt
        other_owing j apart (down None) o = tt
        other_owing j apart (down (Some other)) o = (o.0, other_staged other (λ e. apart (e ∙ o.0)) o.1)
        other_owing j apart unloaded o =
            subst (λ (x : History V). IsIdle size x j) (sym t.history)
            (idle_push size j net.history.events (Ok (first_world net.history)) w staged.event h.world.is_after o
            (λ is. (let both : Some staged.at ≡ Some j = sym at.node ∙ is in let same : staged.at ≡ j = cc in apart same)))

        -- if the node is up and its keep has made the change, the net and the stores are a switch
        pub committed : (store new : StoreState V) → slice_get stores staged.at ≡ Some store → new.kept ≡ kept_of step.node → new.status ≡ up → IsSwitch size b (set stores staged.at new)
        committed store new is kept is_up = record {
          world = taken_world;
          count = length-set stores staged.at new ∙ h.count ∙ sym (ap (λ (cs : List (Core V)). length cs) t.cores ∙ length-set net.cores staged.at t.core);
          each = each_after taken_world.world.nodes stores (λ j m s. StoreFitsNode size b j m s) staged.at store new is
              (λ m there.
              (let both : Some step.node ≡ Some m = sym (ap (λ (ns : List (Node V)). slice_get ns staged.at) nodes_then ∙ at_set w.nodes staged.at step.node d.core.node node_is) ∙ there in
              let same : step.node ≡ m = cc in
              record {
                fits = subst (λ (s : Status (StagedEvent V)). IsRecordOf m s new.kept) (sym is_up) (kept ∙ ap (λ (n : Node V). kept_of n) same);
                pending_staged = subst (λ (s : Status (StagedEvent V)). IsPendingStaged size b staged.at s) (sym is_up) tt;
              }))
              (λ j m s other there is_s.
              (let own = h.each j m s (sym (ap (λ (ns : List (Node V)). slice_get ns j) nodes_then ∙ at_set_other w.nodes staged.at j step.node other) ∙ there) is_s in
              record { fits = own.fits; pending_staged = other_owing j other s.status own.pending_staged }));
        }
