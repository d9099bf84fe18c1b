-- A node at which nothing happened begins again with another kept part: what happened at the others
-- stays as it is.
use Rattle.net.proofs.Words.{◌≡◌, ◌≢◌, ℕ, zero, suc, ◌+◌, ◌<◌, ◌==◌, Bool, true, false, List, [], ◌∷◌, length, get_or, Option, Some, None, Ok, inl, inr, refl, ap, sym, ◌∙◌, subst, arith, option_map, slice_get, set, length-set, nat_tests, KeptPart, RecordView, Node, Core, Packet, reloaded, restarted_node, parts_of, Event, World, log, log_at, log_after, History, AreOfWorld, first_world, world_of, nodes_of, NetView}
use Rattle.net.specs.Resumed.{IsIdle, with_begin, BeginsAgain}
use Rattle.net.specs.declared.ghost_value.GhostValue.{GhostValue}
use Rattle.net.proofs.GrowingLists.{at_set_other}
use Rattle.net.proofs.HistoryLemmas.{nodes_at, nodes_of-set}
use Rattle.net.proofs.OwnNumbers.{IsOwn, own_after}
use Rattle.net.proofs.ResumedLemmas.{set_read, nodes_with-read, log-nodes_with, Alike, Reaches, SameOrIdle, others_alike, reaches_all}

-- lists with the same elements are equal
same_list : {A : Type 0} (xs ys : List A) → ((j : ℕ) → slice_get xs j ≡ slice_get ys j) → xs ≡ ys
same_list [] [] h = refl
same_list [] (y ∷ ys) h = let no : None ≡ Some y = h 0 in cc
same_list (x ∷ xs) [] h = let no : Some x ≡ None = h 0 in cc
same_list {A} (x ∷ xs) (y ∷ ys) h =
    let first : Some x ≡ Some y = h 0 in
    let same : x ≡ y = cc in
    ap (λ (z : A). z ∷ xs) same ∙ ap (λ (zs : List A). y ∷ zs) (same_list xs ys (λ j. h (suc j)))

module _ {V : Type 0} (size : V → ℕ) (history : History V) (w : World V) (is_after : world_of size history ≡ Ok w) (k : ℕ) (idle : IsIdle size history k) (kept : KeptPart V) where
  abbrev ws : List ℕ
  ws = history.weights

  abbrev begins : List (KeptPart V)
  begins = set history.begins k kept

  abbrev IsOther : ℕ → Type 0
  IsOther j = k ≢ j

  abbrev IsOwner : ℕ → Type 0
  IsOwner j = k ≡ j

  at_first : (j : ℕ) (t : Bool) → (k == j) ≡ t → SameOrIdle size ws history.begins begins IsOther IsOwner (first_world history) (first_world (with_begin history k kept)) history.events j
  at_first j true e =
      let same : k ≡ j = grind (arith, nat_tests) in
      inr (same, subst (λ (i : ℕ). IsIdle size history i) same idle, refl, refl)
  at_first j false e =
      let other : k ≢ j = grind (arith, nat_tests) in
      inl (
        other,
        nodes_with-read ws 0 begins j
            ∙ ap (λ (o : Option (KeptPart V)). option_map (λ kept. restarted_node (0 + j) ws kept) o) (at_set_other history.begins k j kept other)
            ∙ sym (nodes_with-read ws 0 history.begins j),
      )

  alike : Alike size ws history.begins begins IsOther IsOwner history.events (first_world history) (first_world (with_begin history k kept))
  alike = record { packets = refl; counted = refl; limit = refl; each = λ j. at_first j (k == j) refl }

  reached : Reaches size ws history.begins begins IsOther IsOwner [] (world_of size (with_begin history k kept)) w
  reached = reaches_all size ws history.begins begins IsOther IsOwner history.events (first_world history) (first_world (with_begin history k kept)) alike w is_after

  -- the world after the events, if node k began with the other part
  pub again : World V
  again = reached.0

  pub again_is : world_of size (with_begin history k kept) ≡ Ok again
  unfolding again
  again_is = reached.1

  pub again_packets : again.packets ≡ w.packets
  unfolding again
  again_packets = reached.2.packets

  -- what is at k in both
  own_read : (o : Option (KeptPart V)) → option_map (λ part. restarted_node (0 + k) ws part) (option_map (λ part. kept) o) ≡ option_map (λ n. restarted_node k ws kept) (option_map (λ part. restarted_node (0 + k) ws part) o)
  own_read None = refl
  own_read (Some part) = let e : 0 + k ≡ k = omega arith in ap (λ (i : ℕ). let o : Option (Node V) = Some (restarted_node i ws kept) in o) e

  node_at : (j : ℕ) (t : Bool) → (k == j) ≡ t → slice_get reached.0.nodes j ≡ slice_get (set w.nodes k (restarted_node k ws kept)) j
  node_at j true e =
      let same : k ≡ j = grind (arith, nat_tests) in
      subst (λ (i : ℕ). slice_get reached.0.nodes i ≡ slice_get (set w.nodes k (restarted_node k ws kept)) i) same (elim (reached.2.each k) [
        | inl other ↦ absurd (other.0 refl)
        | inr own ↦ own.3 ∙ nodes_with-read ws 0 begins k
            ∙ ap (λ (o : Option (KeptPart V)). option_map (λ part. restarted_node (0 + k) ws part) o) (set_read history.begins k kept)
            ∙ own_read (slice_get history.begins k)
            ∙ ap (λ (o : Option (Node V)). option_map (λ n. restarted_node k ws kept) o) (sym (own.2 ∙ nodes_with-read ws 0 history.begins k))
            ∙ sym (set_read w.nodes k (restarted_node k ws kept))
      ])
  node_at j false e =
      let other : k ≢ j = grind (arith, nat_tests) in
      elim (reached.2.each j) [
        | inl same ↦ same.1 ∙ sym (at_set_other w.nodes k j (restarted_node k ws kept) other)
        | inr own ↦ absurd (other own.0)
      ]

  -- node k is as it begins, and the others are as they were
  pub again_nodes : again.nodes ≡ set w.nodes k (restarted_node k ws kept)
  unfolding again
  again_nodes = same_list reached.0.nodes (set w.nodes k (restarted_node k ws kept)) (λ j. node_at j (k == j) refl)

  -- each log is as it was
  pub again_log : (j : ℕ) → log again j ≡ log w j
  unfolding again
  again_log j = elim (reached.2.each j) [
    | inl same ↦ ap (λ (o : Option (Node V)). log_at o) same.1
    | inr own ↦ ap (λ (o : Option (Node V)). log_at o) own.3 ∙ log-nodes_with ws 0 begins j ∙ sym (ap (λ (o : Option (Node V)). log_at o) own.2 ∙ log-nodes_with ws 0 history.begins j)
  ]

  -- nothing happens where nothing happened
  pub again_idle : (j : ℕ) → IsIdle size history j → IsIdle size (with_begin history k kept) j
  again_idle j none = others_alike size ws history.begins begins IsOther IsOwner j history.events (first_world history) (first_world (with_begin history k kept)) alike w is_after none

-- what is kept of the values that contracts see, once one is replaced
parts_of-set : {V : Type 0} (values : List (GhostValue (RecordView V))) (k : ℕ) (value : GhostValue (RecordView V)) → parts_of (set values k value) ≡ set (parts_of values) k value.value.kept
parts_of-set [] k value = refl
parts_of-set (x ∷ values) zero value = refl
parts_of-set (x ∷ values) (suc k) value = ap (λ ps. x.value.kept ∷ ps) (parts_of-set values k value)

module _ {V : Type 0} (size : V → ℕ) (weights : List ℕ) (limit : ℕ) (values : List (GhostValue (RecordView V))) (events : List (Event V)) (cores : List (Core V)) (packets : List (Packet V)) where
  abbrev view : List (GhostValue (RecordView V)) → List (Core V) → ℕ → ℕ → NetView V
  view gs cs packet_capacity event_capacity = record { history = record { weights = weights; event_limit = limit; begins = parts_of gs; events = events }; cores = cs; packets = packets; packet_capacity = packet_capacity; event_capacity = event_capacity }

  module _ (packet_capacity event_capacity : ℕ) (now : NetView V) (seen : view values cores packet_capacity event_capacity ≡ now) (h : AreOfWorld size (record { weights = weights; event_limit = limit; begins = parts_of values; events = events }) cores packets)
      (k : ℕ) (nothing : IsIdle size now.history k) (stored : RecordView V) (value : GhostValue (RecordView V)) (value_is : value.value ≡ stored) (was core : Core V) (low : k < length cores) (was_is : was ≡ get_or cores k was) (reloads : core.node ≡ (reloaded was.node stored.kept).node) where
    abbrev old : History V
    old = record { weights = weights; event_limit = limit; begins = parts_of values; events = events }

    idle_at : IsIdle size old k
    idle_at = subst (λ (n : NetView V). IsIdle size n.history k) (sym seen) nothing

    own : IsOwn weights k was.node
    own = (own_after size weights limit (parts_of values) events h.world h.is_after).each k was.node (ap (λ (ns : List (Node V)). slice_get ns k) h.nodes ∙ nodes_at cores k was low was_is)

    node_is : core.node ≡ restarted_node k weights stored.kept
    node_is = reloads ∙ ap (λ (i : ℕ). restarted_node i was.node.weights stored.kept) own.me ∙ ap (λ (us : List ℕ). restarted_node k us stored.kept) own.weights

    parts_are : parts_of (set values k value) ≡ set (parts_of values) k stored.kept
    parts_are = parts_of-set values k value ∙ ap (λ (r : RecordView V). set (parts_of values) k r.kept) value_is

    history_is : (let t : History V = record { weights = weights; event_limit = limit; begins = parts_of (set values k value); events = events } in t) ≡ with_begin old k stored.kept
    history_is = ap (λ (ps : List (KeptPart V)). let t : History V = record { weights = weights; event_limit = limit; begins = ps; events = events } in t) parts_are

    -- the cores and packets are of the world of the new history
    pub world_again : AreOfWorld size (record { weights = weights; event_limit = limit; begins = parts_of (set values k value); events = events }) (set cores k core) packets
    world_again = subst (λ (t : History V). AreOfWorld size t (set cores k core) packets) (sym history_is) record {
      world = again size old h.world h.is_after k idle_at stored.kept;
      is_after = again_is size old h.world h.is_after k idle_at stored.kept;
      nodes = again_nodes size old h.world h.is_after k idle_at stored.kept
          ∙ ap (λ (ns : List (Node V)). set ns k (restarted_node k weights stored.kept)) h.nodes
          ∙ ap (λ (n : Node V). set (nodes_of cores) k n) (sym node_is) ∙ sym (nodes_of-set cores k core);
      posted = again_packets size old h.world h.is_after k idle_at stored.kept ∙ h.posted;
      weights = h.weights;
      count = length-set (parts_of values) k stored.kept ∙ h.count;
      posts = h.posts;
    }

    logs_again : (j : ℕ) → log_after (world_of size (with_begin old k stored.kept)) j ≡ log_after (world_of size old) j
    logs_again j = ap (λ r. log_after r j) (again_is size old h.world h.is_after k idle_at stored.kept) ∙ again_log size old h.world h.is_after k idle_at stored.kept j ∙ sym (ap (λ r. log_after r j) h.is_after)

    -- node k begins again
    pub begins_again : (packet_room event_room : ℕ) → BeginsAgain size now (view (set values k value) (set cores k core) packet_room event_room) k stored.kept
    begins_again packet_room event_room = subst (λ (n : NetView V). BeginsAgain size n (view (set values k value) (set cores k core) packet_room event_room) k stored.kept) seen record {
      history = history_is;
      core = core;
      node = node_is;
      cores = refl;
      packets = refl;
      world = world_again;
      logs = λ j. ap (λ (t : History V). log_after (world_of size t) j) history_is ∙ logs_again j;
      idle = λ j none. subst (λ (t : History V). IsIdle size t j) (sym history_is) (again_idle size old h.world h.is_after k idle_at stored.kept j none);
    }
