-- Packets to several nodes, one by one.
use Rattle.synod.proofs.Words.{◌≡◌, ℕ, suc, ◌+◌, ◌<◌, ◌==◌, Bool, true, false, List, [], ◌∷◌, ◌++◌, length, drop, refl, ap, sym, ◌∙◌, append_assoc, add-one, drop-cons, if◌then◌else◌, Packet, Body, packet, to_others_from, to_node, to_nodes_from}

-- the packets to the nodes from i on are the one to node i and those to the nodes after it
node_first : {V : Type 0} (others : Bool) (me i : ℕ) (body : Body V) (w : ℕ) (ws : List ℕ) → to_node others me i body ++ to_nodes_from others me body (suc i) ws ≡ to_nodes_from others me body i (w ∷ ws)
node_first false me i body w ws = refl
node_first {V} true me i body w ws = by (i == me) where
  by : (b : Bool) → let rest : List (Packet V) = to_others_from me body (suc i) ws in (if b then [] else (packet me i body ∷ [])) ++ rest ≡ (if b then rest else (packet me i body ∷ rest))
  by true = refl
  by false = refl

-- once the packet to node i is posted, those to the nodes after it remain to be posted
pub broadcast_next : {V : Type 0} (posts more : List (Packet V)) (others : Bool) (me to i : ℕ) (body : Body V) (ws : List ℕ) → more ≡ posts ++ to_node others me to body → to ≡ i → i < length ws
    → more ++ to_nodes_from others me body (i + 1) (drop (i + 1) ws) ≡ posts ++ to_nodes_from others me body i (drop i ws)
broadcast_next {V} posts more others me to i body ws posted at within =
    let rest : List (Packet V) = to_nodes_from others me body (suc i) (drop (suc i) ws) in
    ap (λ (j : ℕ). more ++ to_nodes_from others me body j (drop j ws)) (add-one i)
    ∙ ap (λ (xs : List (Packet V)). xs ++ rest) (posted ∙ ap (λ (j : ℕ). posts ++ to_node others me j body) at)
    ∙ append_assoc posts (to_node others me i body) rest
    ∙ ap (λ (xs : List (Packet V)). posts ++ xs) (node_first others me i body _ (drop (suc i) ws) ∙ ap (λ (xs : List ℕ). to_nodes_from others me body i xs) (sym (drop-cons ws i 0 within)))
