-- The event that a node owes while it is down: it can be taken, and then the net and the stores are
-- a switch.
use Rattle.switch.proofs.Words.{◌≡◌, ℕ, ◌+◌, ◌<◌, ◌≤◌, List, ◌++◌, length, set, slice_get, Option, Some, None, refl, ap, sym, ◌∙◌, subst, arith, changed_by, Node, kept_of, World, History, StagedEvent, NetView, ChangesOnlyCapacity, HasSpareCapacity, step_of, Status, up, down, StoreState, pending_change, pending_posts, IsRecordOf, pending_event, IsPendingStaged, IsSwitch, CanCommitPending, CommitsPending, change_of_pending, pending_events, append-nil}
use Rattle.switch.proofs.KeepLemmas.{with_either}
use Rattle.switch.proofs.SwitchLemmas.{other_store, node_is, committed, change_told, changes}

-- if only rooms change, there is still room for two events
pub room_still : {V : Type 0} (a b : NetView V) → ChangesOnlyCapacity a b → length a.history.events + 2 ≤ a.history.event_limit → length b.history.events + 2 ≤ b.history.event_limit
room_still {V} a b only_capacity room = subst (λ (t : History V). length t.events + 2 ≤ t.event_limit) (sym only_capacity.history) room

module _ {V : Type 0} (size : V → ℕ) (net : NetView V) (stores : List (StoreState V)) (h : IsSwitch size net stores) (k : ℕ) where
  abbrev w : World V
  w = h.world.world

  -- the change of the pending event is the one that the event makes in the world after the history
  pub owed_change : (o : Option (StagedEvent V)) → IsPendingStaged size net k (down o) → pending_change o ≡ change_of_pending size w (pending_event o)
  owed_change None q = refl
  owed_change (Some staged) q = change_told size net stores h staged q.1

  module _ (room : length net.history.events + 2 ≤ net.history.event_limit) where
    -- the pending event can be taken, if there is room for it and for the restart
    pub can_take : (o : Option (StagedEvent V)) → IsPendingStaged size net k (down o) → (more : ℕ) → HasSpareCapacity net (length (pending_posts o) + more) 2 → CanCommitPending size net o
    can_take None q more r = tt
    can_take (Some staged) q more r = (
      q.1,
      record { for_packets = (let a = r.for_packets in omega (arith, a)); for_events = (let a = r.for_events in omega (arith, a)) },
      omega (arith, room),
    )

  module _ (n : Node V) (store new : StoreState V) (node_k : slice_get w.nodes k ≡ Some n) (found : slice_get stores k ≡ Some store) (new_up : new.status ≡ up) (room : length net.history.events + 2 ≤ net.history.event_limit) (m : NetView V) where
    -- once the keep has made its change and the pending event is taken, the net and the stores are
    -- a switch, and the net has the event and its posts
    pub owed_taken : (p : Option (StagedEvent V)) → IsPendingStaged size net k (down p) → IsRecordOf n (down p) store.kept → new.kept ≡ changed_by store.kept (pending_change p) → CommitsPending net m p
        → (switch : IsSwitch size m (set stores k new)) × (m.history.weights ≡ net.history.weights) × (m.history.events ≡ net.history.events ++ pending_events (pending_event p)) × (m.packets ≡ net.packets ++ pending_posts p)
        × (net.packet_capacity ≤ m.packet_capacity) × (net.event_capacity ≤ m.event_capacity) × (m.history.event_limit ≡ net.history.event_limit) × (m.history.begins ≡ net.history.begins)
    owed_taken None q f kept same =
        let base : IsSwitch size net (set stores k new) = other_store size net stores h k n store new node_k found record {
          fits = subst (λ (s : Status (StagedEvent V)). IsRecordOf n s new.kept) (sym new_up) (kept ∙ with_either (kept_of n) store.kept None f);
          pending_staged = subst (λ (s : Status (StagedEvent V)). IsPendingStaged size net k s) (sym new_up) tt;
        } in (
          subst (λ (x : NetView V). IsSwitch size x (set stores k new)) (sym same) base,
          ap (λ (x : NetView V). x.history.weights) same,
          ap (λ (x : NetView V). x.history.events) same ∙ sym (append-nil net.history.events),
          ap (λ (x : NetView V). x.packets) same ∙ sym (append-nil net.packets),
          (let e = ap (λ (x : NetView V). x.packet_capacity) same in omega (arith, e)),
          (let e = ap (λ (x : NetView V). x.event_capacity) same in omega (arith, e)),
          ap (λ (x : NetView V). x.history.event_limit) same,
          ap (λ (x : NetView V). x.history.begins) same,
        )
    owed_taken (Some staged) q f kept t =
        let low : length net.history.events < net.history.event_limit = omega (arith, room) in
        let at_k : slice_get stores staged.at ≡ Some store = ap (λ (i : ℕ). slice_get stores i) q.0 ∙ found in
        let same_node : n ≡ q.1.core.node =
        (let both : Some n ≡ Some q.1.core.node = sym node_k ∙ ap (λ (i : ℕ). slice_get w.nodes i) (sym q.0) ∙ node_is size net stores h staged q.1 in cc) in
        let stored : new.kept ≡ kept_of (step_of staged.work q.1.core.node).node =
        kept ∙ with_either (kept_of n) store.kept (pending_change (Some staged)) f ∙ ap (λ (x : Node V). changed_by (kept_of x) (pending_change (Some staged))) same_node ∙ sym (changes size net stores h staged q.1 low) in (
          subst (λ (i : ℕ). IsSwitch size m (set stores i new)) q.0 (committed size net stores h staged q.1 low m t store new at_k stored new_up),
          ap (λ (x : History V). x.weights) t.history,
          ap (λ (x : History V). x.events) t.history,
          t.packets,
          t.packet_capacity,
          t.event_capacity,
          ap (λ (x : History V). x.event_limit) t.history,
          ap (λ (x : History V). x.begins) t.history,
        )
