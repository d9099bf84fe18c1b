-- The result of an event at its node, and staged events while nodes do not change.
use Rattle.net.proofs.Words.{◌≡◌, ℕ, zero, suc, List, [], ◌∷◌, length, get_or, set, slice_get, Option, Some, None, Ok, refl, ap, sym, ◌∙◌, subst, arith, AllByRecursion, option_map, Packet, Ask, IsPost, to_others, Node, kept_of, Core, KeepsCapacity, offer_result, begin_result, on_packet, restarted, same_room, Offer, Begin, Deliver, Restart, after_step_or_fault, at_node, delivered, change_at, change_delivered, History, nodes_of, StagedWork, steps, restarts, StagedEvent, posts_of, step_of, IsReadyAt, HasResult, NetView, EachChangesOnlyCapacity, ChangesOnlyCapacity, IsStaged}
use Rattle.net.proofs.GrowingLists.{at_front}

-- The result of an event at its node.

module _ {V : Type 0} (size : V → ℕ) (ps : List (Packet V)) (k : ℕ) (n : Node V) where
  -- the result of an offer is the node's answer to the value
  pub comes_offer : (v : V) → HasResult size ps k n (Offer k v) (offer_result size n v)
  comes_offer v = λ w more e is. record {
    event_result = ap (λ (o : Option (Node V)). at_node w k (λ n. offer_result size n v) o) is;
    change = ap (λ (o : Option (Node V)). change_at (λ n. offer_result size n v) o) is;
    node = refl;
  }

  -- the result of a begin is the node's answer to it
  pub comes_begin : HasResult size ps k n (Begin k) (begin_result n)
  comes_begin = λ w more e is. record {
    event_result = ap (λ (o : Option (Node V)). at_node w k begin_result o) is;
    change = ap (λ (o : Option (Node V)). change_at begin_result o) is;
    node = refl;
  }

  -- the result of a restart is the restarted node
  pub comes_restart : HasResult size ps k n (Restart k) (Ok (restarted n))
  comes_restart = λ w more e is. record {
    event_result = ap (λ (o : Option (Node V)). at_node w k (λ n. Ok (restarted n)) o) is;
    change = ap (λ (o : Option (Node V)). change_at (λ n. Ok (restarted n)) o) is;
    node = refl;
  }

  -- the result of a delivery is the answer of the node to which the packet is addressed
  pub comes_packet : (number : ℕ) (p : Packet V) → slice_get ps number ≡ Some p → p.to ≡ k → HasResult size ps k n (Deliver number) (Ok (on_packet n p))
  comes_packet number p at to = λ w more e is.
      let got : slice_get w.packets number ≡ Some p = ap (λ (qs : List (Packet V)). slice_get qs number) e ∙ at_front ps more number p at in
      let node : slice_get w.nodes p.to ≡ Some n = ap (λ (j : ℕ). slice_get w.nodes j) to ∙ is in
      record {
        event_result = ap (λ (o : Option (Packet V)). delivered w o) got ∙ ap (λ (o : Option (Node V)). at_node w p.to (λ n. Ok (on_packet n p)) o) node
            ∙ ap (λ (j : ℕ). after_step_or_fault w j (Ok (on_packet n p))) to;
        change = ap (λ (o : Option (Packet V)). change_delivered w o) got ∙ ap (λ (o : Option (Node V)). change_at (λ n. Ok (on_packet n p)) o) node;
        node = ap (λ (o : Option (Packet V)). option_map (λ p. p.to) o) got ∙ ap (λ (j : ℕ). let o : Option ℕ = Some j in o) to;
      }

-- if the look-up gives no addressee, it gives no packet
pub not_mapped : {V : Type 0} (o : Option (Packet V)) → option_map (λ (p : Packet V). p.to) o ≡ None → o ≡ None
not_mapped None is = refl
not_mapped (Some p) is = cc

-- if the look-up gives an addressee, it gives a packet, which is addressed to that node
pub mapped : {V : Type 0} (o : Option (Packet V)) (k : ℕ) → option_map (λ (p : Packet V). p.to) o ≡ Some k → (p : Packet V) × (o ≡ Some p) × (p.to ≡ k)
mapped None k is = cc
mapped (Some p) k is = (p, refl, let same : p.to ≡ k = cc in same)

-- Cores that keep their nodes and have at least as much room.

-- having no less room is transitive
pub more_room : {V : Type 0} (a b c : Core V) → KeepsCapacity a b → KeepsCapacity b c → KeepsCapacity a c
more_room a b c one two = record {
  accepted = let x = one.accepted in let y = two.accepted in omega (arith, x, y);
  pages = λ k. (let x = one.pages k in let y = two.pages k in omega (arith, x, y));
  heard = let x = one.heard in let y = two.heard in omega (arith, x, y);
  waiting = let x = one.waiting in let y = two.waiting in omega (arith, x, y);
  tallies = let x = one.tallies in let y = two.tallies in omega (arith, x, y);
  other_tallies = let x = one.other_tallies in let y = two.other_tallies in omega (arith, x, y);
  learned = let x = one.learned in let y = two.learned in omega (arith, x, y);
}

-- a list of cores differs from itself at most in rooms
pub still_same : {V : Type 0} (cs : List (Core V)) → EachChangesOnlyCapacity cs cs
still_same [] = tt
still_same (c ∷ cs) = (refl, same_room c, still_same cs)

-- if a core is replaced by one with the same node and no less room, only rooms change
pub still_set : {V : Type 0} (cs : List (Core V)) (k : ℕ) (c d : Core V) → c ≡ get_or cs k c → d.node ≡ c.node → KeepsCapacity c d → EachChangesOnlyCapacity cs (set cs k d)
still_set [] k c d is node room = tt
still_set {V} (x ∷ cs) zero c d is node room = (node ∙ ap (λ (y : Core V). y.node) is, subst (λ (y : Core V). KeepsCapacity y d) is room, still_same cs)
still_set (x ∷ cs) (suc k) c d is node room = (refl, same_room x, still_set cs k c d is node room)

-- if only rooms change, the nodes of the cores are the same
pub nodes_still : {V : Type 0} (cs ds : List (Core V)) → EachChangesOnlyCapacity cs ds → nodes_of ds ≡ nodes_of cs
nodes_still [] [] h = refl
nodes_still {V} (c ∷ cs) (d ∷ ds) h = ap (λ (n : Node V). n ∷ nodes_of ds) h.0 ∙ ap (λ (ns : List (Node V)). c.node ∷ ns) (nodes_still cs ds h.2)
nodes_still [] (d ∷ ds) h = elim h [ ]
nodes_still (c ∷ cs) [] h = elim h [ ]

-- if core c is at index k, its node is at index k of the nodes
pub nodes_found : {V : Type 0} (cs : List (Core V)) (k : ℕ) (c : Core V) → slice_get cs k ≡ Some c → slice_get (nodes_of cs) k ≡ Some c.node
nodes_found [] k c at = cc
nodes_found {V} (x ∷ cs) zero c at = let same : x ≡ c = cc in ap (λ (y : Core V). let o : Option (Node V) = Some y.node in o) same
nodes_found (x ∷ cs) (suc k) c at = nodes_found cs k c at

-- if only rooms change, the core at each index keeps its node and has no less room
pub still_at : {V : Type 0} (cs ds : List (Core V)) → EachChangesOnlyCapacity cs ds → (k : ℕ) (c : Core V) → slice_get cs k ≡ Some c → (d : Core V) × (slice_get ds k ≡ Some d) × (d.node ≡ c.node) × KeepsCapacity c d
still_at [] [] h k c at = cc
still_at {V} (x ∷ cs) (d ∷ ds) h zero c at = let same : x ≡ c = cc in (d, refl, h.0 ∙ ap (λ (y : Core V). y.node) same, subst (λ (y : Core V). KeepsCapacity y d) same h.1)
still_at (x ∷ cs) (d ∷ ds) h (suc k) c at = still_at cs ds h.2 k c at
still_at [] (d ∷ ds) h k c at = elim h [ ]
still_at (x ∷ cs) [] h k c at = elim h [ ]

-- A staged event stays staged.

-- work that is ready at a node is ready at the same node with more room
pub ready_still : {V : Type 0} (c d : Core V) (w : StagedWork V) → d.node ≡ c.node → KeepsCapacity c d → IsReadyAt c w → IsReadyAt d w
ready_still c d (steps made) same room h = (same ∙ h.0, more_room made.before c d h.1 room)
ready_still {V} c d (restarts posts None) same room h = h ∙ ap (λ (n : Node V). to_others n.me n.weights (Ask 0)) (sym same)
ready_still {V} c d (restarts posts (Some kept)) same room h = (h.0 ∙ ap (λ (n : Node V). to_others n.me n.weights (Ask 0)) (sym same), h.1 ∙ ap (λ (n : Node V). kept_of n) (sym same))

-- a staged event stays staged if only rooms change
pub staged_still : {V : Type 0} (size : V → ℕ) (a b : NetView V) (staged : StagedEvent V) → ChangesOnlyCapacity a b → IsStaged size a staged → IsStaged size b staged
staged_still {V} size a b staged only_capacity h =
    let d = still_at a.cores b.cores only_capacity.cores staged.at h.core h.at in
    record {
      core = d.0;
      at = d.1;
      ready = ready_still h.core d.0 staged.work d.2 d.3 h.ready;
      has_result = subst (λ (ps : List (Packet V)). HasResult size ps staged.at d.0.node staged.event (Ok (step_of staged.work d.0.node))) (sym only_capacity.packets)
          (subst (λ (n : Node V). HasResult size a.packets staged.at n staged.event (Ok (step_of staged.work n))) (sym d.2) h.has_result);
      posts = subst (λ (t : History V). AllByRecursion (IsPost (length t.weights)) (posts_of staged.work)) (sym only_capacity.history) h.posts;
    }
