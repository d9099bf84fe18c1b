-- The invariant holds at the start, and each event that is taken preserves it, so it holds of the
-- world after any events.
use Rattle.net.proofs.Words.{◌≡◌, ℕ, zero, suc, ◌+◌, ◌<◌, Bool, true, false, ◌==◌, List, [], ◌∷◌, Option, Some, None, Result, Ok, Err, inl, inr, refl, ap, sym, ◌∙◌, subst, arith, if◌then◌else◌, slice_get, set, AllByRecursion, In, Packet, Body, Prepare, Promise, Accept, Accepted, Nack, Ask, Told, Refusal, Node, StepResult, offer_result, begin_result, on_body, on_packet, restarted, Event, Offer, Begin, Deliver, Restart, StepFault, EventsSpent, Vote, World, start, nodes_with, new_parts, after_step, after_step_or_fault, votes_after, at_node, delivered, event_result_without_limit, event_result, events_result, after, offers_of, IsAfter, all_append}
use Rattle.net.proofs.GrowingLists.{all_more, all_in, in_slice_get}
use Rattle.net.proofs.Ledger.{Ledger, IsSound}
use Rattle.net.proofs.LedgerGrows.{Grows}
use Rattle.net.proofs.Invariant.{NodeHolds, NodesHold, SaysTrue, IsTrue, WorldHolds, node_lasts, truth_lasts}
use Rattle.net.proofs.StepsContinue.{Continues, same_ledger, true_to_others}
use Rattle.net.proofs.AcceptorSteps.{prepare_continues, accept_continues}
use Rattle.net.proofs.LearnerSteps.{accepted_continues, ask_continues, told_continues}
use Rattle.net.proofs.ProposerSteps.{IfStep, begin_continues, offer_continues, nack_continues}
use Rattle.net.proofs.PromiseSteps.{promise_continues}

module _ {V : Type 0} {offers : List V} {l : Ledger V} (n : Node V) (sound : IsSound n.weights offers l) (holds : NodeHolds n.weights offers l n.me n) where
  -- each body that says the truth about its sender preserves the invariant
  body_continues : (p : ℕ) (body : Body V) → SaysTrue n.weights l p body → Continues n.weights offers n.me l (on_body n p body)
  body_continues p (Prepare b first) said = prepare_continues n sound holds p b first said
  body_continues p (Promise b number count reports) said = promise_continues n sound holds p b number count reports said
  body_continues p (Accept b s v) said = accept_continues n sound holds p b s v said
  body_continues p (Accepted b s v) said = accepted_continues n sound holds p b s v said
  body_continues p (Nack b c) said = nack_continues n sound holds b c
  body_continues p (Ask s) said = ask_continues n sound holds p s
  body_continues p (Told s v) said = told_continues n sound holds p s v said

  -- a restart preserves the invariant: the acceptor keeps its state, and the rest is as in a new
  -- node
  restart_continues : Continues n.weights offers n.me l (restarted n)
  restart_continues = same_ledger sound record {
    me = holds.me;
    weights = holds.weights;
    acceptor = holds.acceptor;
    proposer = record { begun = holds.proposer.begun; as_role = tt; offered = tt };
    learner = record { voters = λ s b j e. cc; chosen = λ s v e. cc };
  } (true_to_others n.weights l n.me (Ask 0) tt 0 n.weights) refl

-- One node of many.

-- if the invariant holds of nodes numbered from k on, it holds of the node at index i, which has
-- the number k + i
pub node_at : {V : Type 0} (ws : List ℕ) (offers : List V) (l : Ledger V) (ns : List (Node V)) (k i : ℕ) (n : Node V) → slice_get ns i ≡ Some n → NodesHold ws offers l k ns → NodeHolds ws offers l (k + i) n
node_at ws offers l [] k i n e h = cc
node_at {V} ws offers l (m ∷ ns) k zero n e h =
    let same : m ≡ n = cc in
    let z : k ≡ k + 0 = omega arith in
    subst (λ (j : ℕ). NodeHolds ws offers l j n) z (subst (λ (m : Node V). NodeHolds ws offers l k m) same h.0)
node_at ws offers l (m ∷ ns) k (suc i) n e h =
    let z : suc k + i ≡ k + suc i = omega arith in
    subst (λ (j : ℕ). NodeHolds ws offers l j n) z (node_at ws offers l ns (suc k) i n e h.1)

module _ {V : Type 0} (ws : List ℕ) (offers : List V) (l m : Ledger V) (d : ℕ) (g : Grows d l m) where
  -- the invariant of the nodes numbered above node d, which acts, still holds in the new ledger
  nodes_above : (ns : List (Node V)) (k : ℕ) → d < k → NodesHold ws offers l k ns → NodesHold ws offers m k ns
  nodes_above [] k above h = tt
  nodes_above (n ∷ ns) k above h = (node_lasts g ws offers k (λ e. let no : ⊥ = omega (arith, e) in no) n h.0, nodes_above ns (suc k) (omega arith) h.1)

  -- if the invariant holds of the new state of node d, it holds of all nodes once d is replaced
  nodes_after : (x : Node V) → NodeHolds ws offers m d x → (ns : List (Node V)) (k i : ℕ) → d ≡ k + i → NodesHold ws offers l k ns → NodesHold ws offers m k (set ns i x)
  nodes_after x hx [] k i e h = tt
  nodes_after x hx (n ∷ ns) k zero e h =
      let z : d ≡ k = omega (arith, e) in
      (subst (λ (j : ℕ). NodeHolds ws offers m j x) z hx, nodes_above ns (suc k) (omega arith) h.1)
  nodes_after x hx (n ∷ ns) k (suc i) e h =
      (node_lasts g ws offers k (λ p. let no : ⊥ = omega (arith, e, p) in no) n h.0, nodes_after x hx ns (suc k) i (omega (arith, e)) h.1)

-- The world after a step.

-- P holds of the world, if the events are taken
abbrev pub IfTaken : {V : Type 0} → Result (World V) StepFault → (World V → Type 0) → Type 0
IfTaken (Ok w) P = P w
IfTaken (Err fault) P = Unit {0}

module _ {V : Type 0} (offers : List V) (w : World V) (h : WorldHolds offers w) where
  -- the invariant holds of the world after a step that preserves it
  world_after : (k : ℕ) (step : StepResult V) → Continues w.weights offers k h.ledger step → WorldHolds offers (after_step w k step)
  world_after k step next = record {
    ledger = next.ledger;
    sound = next.sound;
    nodes = nodes_after w.weights offers h.ledger next.ledger k next.grows step.node next.node w.nodes 0 k (omega arith) h.nodes;
    packets = all_append (IsTrue w.weights next.ledger) w.packets step.posts
        (all_more (IsTrue w.weights h.ledger) (IsTrue w.weights next.ledger) w.packets (λ p said. truth_lasts next.grows w.weights p.from p.body said) h.packets) next.posts;
    votes_cast = next.cast ∙ ap (λ (votes : List (Vote V)). votes_after k step.change votes) h.votes_cast;
  }

  module _ (k : ℕ) (n : Node V) (is_node : slice_get w.nodes k ≡ Some n) where
    -- the invariant holds of node k in the world
    there : NodeHolds w.weights offers h.ledger k n
    there = let z : 0 + k ≡ k = omega arith in subst (λ (j : ℕ). NodeHolds w.weights offers h.ledger j n) z (node_at w.weights offers h.ledger w.nodes 0 k n is_node h.nodes)

    -- the ledger is sound by the node's own weights
    own_sound : IsSound n.weights offers h.ledger
    own_sound = subst (λ (ws : List ℕ). IsSound ws offers h.ledger) (sym there.weights) h.sound

    -- the invariant holds of the node, by its own number and weights
    own_holds : NodeHolds n.weights offers h.ledger n.me n
    own_holds = subst (λ (ws : List ℕ). NodeHolds ws offers h.ledger n.me n) (sym there.weights) (subst (λ (j : ℕ). NodeHolds w.weights offers h.ledger j n) (sym there.me) there)

    -- if the answer of the node preserves the invariant, the invariant holds after it
    answered_holds : (r : Result (StepResult V) Refusal) → IfStep r (λ step. Continues n.weights offers n.me h.ledger step) → IfTaken (after_step_or_fault w k r) (WorldHolds offers)
    answered_holds (Ok step) next = world_after k step (subst (λ (j : ℕ). Continues w.weights offers j h.ledger step) there.me (subst (λ (ws : List ℕ). Continues ws offers n.me h.ledger step) there.weights next))
    answered_holds (Err refusal) next = tt

  -- if the answer of every node with its number and weights preserves the invariant, the invariant
  -- holds after it
  at_node_holds : (k : ℕ) (make : Node V → Result (StepResult V) Refusal)
      → ((n : Node V) → NodeHolds w.weights offers h.ledger k n → IsSound n.weights offers h.ledger → NodeHolds n.weights offers h.ledger n.me n → IfStep (make n) (λ step. Continues n.weights offers n.me h.ledger step))
      → (o : Option (Node V)) → slice_get w.nodes k ≡ o → IfTaken (at_node w k make o) (WorldHolds offers)
  at_node_holds k make continues None e = tt
  at_node_holds k make continues (Some n) e = answered_holds k n e (make n) (continues n (there k n e) (own_sound k n e) (own_holds k n e))

  -- the invariant holds after a delivery, since the packet is true
  delivered_holds : (number : ℕ) (o : Option (Packet V)) → slice_get w.packets number ≡ o → IfTaken (delivered w o) (WorldHolds offers)
  delivered_holds number None e = tt
  delivered_holds number (Some p) e =
      let said : IsTrue w.weights h.ledger p = all_in (IsTrue w.weights h.ledger) w.packets p (in_slice_get w.packets number p e) h.packets in
      at_node_holds p.to (λ n. Ok (on_packet n p))
      (λ n at sound holds. body_continues n sound holds p.from p.body (subst (λ (ws : List ℕ). SaysTrue ws h.ledger p.from p.body) (sym at.weights) said))
      (slice_get w.nodes p.to) refl

  -- the invariant holds after an event that is taken, if the value that it offers is among the
  -- offers
  happens_at_holds : (size : V → ℕ) (e : Event V) → ((v : V) → In v (offers_of (e ∷ [])) → In v offers) → IfTaken (event_result_without_limit size w e) (WorldHolds offers)
  happens_at_holds size (Offer k v) brought = at_node_holds k (λ n. offer_result size n v) (λ n at sound holds. offer_continues n sound holds size v (brought v (inl refl))) (slice_get w.nodes k) refl
  happens_at_holds size (Begin k) brought = at_node_holds k begin_result (λ n at sound holds. begin_continues n sound holds) (slice_get w.nodes k) refl
  happens_at_holds size (Deliver number) brought = delivered_holds number (slice_get w.packets number) refl
  happens_at_holds size (Restart k) brought = at_node_holds k (λ n. Ok (restarted n)) (λ n at sound holds. restart_continues n sound holds) (slice_get w.nodes k) refl

-- if P holds of the world after an event that is taken, it holds also if the limit of events is
-- tested first
pub spent_or : {V : Type 0} (P : World V → Type 0) (r : Result (World V) StepFault) (t : Bool) → IfTaken r P → IfTaken (if t then Err EventsSpent else r) P
spent_or P r true h = tt
spent_or P r false h = h

-- a fact that each event preserves, if it is taken, is preserved by a list of events
pub all_keep : {V : Type 0} (size : V → ℕ) (P : World V → Type 0) (each : Event V → Type 0) → ((w : World V) (e : Event V) → each e → P w → IfTaken (event_result_without_limit size w e) P)
    → (es : List (Event V)) → AllByRecursion each es → (r : Result (World V) StepFault) → IfTaken r P → IfTaken (events_result size es r) P
all_keep size P each keeps [] all r h = h
all_keep size P each keeps (e ∷ es) all (Err fault) h = tt
all_keep size P each keeps (e ∷ es) all (Ok w) h =
    all_keep size P each keeps es all.1 (event_result size w e) (spent_or P (event_result_without_limit size w e) (w.event_count == w.event_limit) (keeps w e all.0 h))

-- The start.

module _ {V : Type 0} (ws : List ℕ) (offers : List V) where
  abbrev empty : Ledger V
  empty = record { begun = []; promises = []; proposals = []; votes = [] }

  -- the invariant holds of new nodes with an empty ledger
  all_new : (k : ℕ) (xs : List ℕ) → NodesHold ws offers empty k (nodes_with ws k (new_parts xs))
  all_new k [] = tt
  all_new k (x ∷ xs) = (
    record {
      me = refl;
      weights = refl;
      acceptor = record { promised = λ p i e. elim i [ ]; voted = λ x i e. elim i [ ]; held_from = λ x i e. elim i [ ]; held = λ s h e. cc };
      proposer = record { begun = λ x i e. elim i [ ]; as_role = tt; offered = tt };
      learner = record { voters = λ s b j e. cc; chosen = λ s v e. cc };
    },
    all_new (suc k) xs,
  )

  -- the invariant holds before any event
  start_holds : (limit : ℕ) → WorldHolds offers (start ws limit)
  start_holds limit = record {
    ledger = empty;
    sound = record {
      one_value = λ p q i j e. elim i [ ];
      backed = λ x i. elim i [ ];
      grounded = tt;
      brought = λ p i. elim i [ ];
      proposed_begun = λ p i. elim i [ ];
      begun_once = λ x y i j e. elim i [ ];
      promised_once = λ p q i j e. elim i [ ];
      truthful = λ p i. elim i [ ];
    };
    nodes = all_new 0 ws;
    packets = tt;
    votes_cast = refl;
  }

-- The world after any events.

-- if P holds of the world after events that are taken, and they lead to w, P holds of w
pub if_taken : {V : Type 0} (P : World V → Type 0) (r : Result (World V) StepFault) (w : World V) → r ≡ Ok w → IfTaken r P → P w
if_taken P (Ok x) w e h = let same : x ≡ w = cc in subst P same h
if_taken P (Err fault) w e h = cc

-- if all values that the events offer are among the offers, so are those of each event
each_brought : {V : Type 0} (offers : List V) (es : List (Event V)) → ((v : V) → In v (offers_of es) → In v offers) → AllByRecursion (λ e. (v : V) → In v (offers_of (e ∷ [])) → In v offers) es
each_brought offers [] more = tt
each_brought offers (Offer k x ∷ es) more = (λ v i. elim i [ inl e ↦ more v (inl e) | inr j ↦ elim j [ ] ], each_brought offers es (λ v i. more v (inr i)))
each_brought offers (Begin k ∷ es) more = (λ v i. elim i [ ], each_brought offers es more)
each_brought offers (Deliver number ∷ es) more = (λ v i. elim i [ ], each_brought offers es more)
each_brought offers (Restart k ∷ es) more = (λ v i. elim i [ ], each_brought offers es more)

-- the invariant holds of the world after any events that are taken
pub holds_after : {V : Type 0} (size : V → ℕ) (ws : List ℕ) (limit : ℕ) (es : List (Event V)) (w : World V) → IsAfter size ws limit es w → WorldHolds (offers_of es) w
holds_after size ws limit es w is_after = if_taken (WorldHolds (offers_of es)) (after size ws limit es) w is_after
    (all_keep size (WorldHolds (offers_of es)) (λ e. (v : _) → In v (offers_of (e ∷ [])) → In v (offers_of es)) (λ w e brought h. happens_at_holds (offers_of es) w h size e brought)
    es (each_brought (offers_of es) es (λ v i. i)) (Ok (start ws limit)) (start_holds ws (offers_of es) limit))
