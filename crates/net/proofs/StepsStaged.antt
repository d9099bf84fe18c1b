-- A step that a node has readied, in the view of the whole net.
use Rattle.net.proofs.Words.{◌≡◌, ℕ, ◌<◌, ◌≤◌, List, [], ◌∷◌, length, get_or, set, slice_get, Option, Some, None, Result, Ok, Err, refl, ap, sym, ◌∙◌, subst, arith, append-nil, slice_get_within, slice_get_read, AllByRecursion, Packet, Refusal, IsPost, Node, StepResult, Core, KeepsCapacity, ReadyView, offer_result, begin_result, on_packet, restarted, same_room, Event, Offer, Begin, Deliver, Restart, StepFault, NoNode, NoPacket, World, after_step_or_fault, at_node, delivered, event_result_without_limit, node_of_event, History, AreOfWorld, world_of, with_event, steps, StagedEvent, posts_of, step_of, IsOfEvent, HasResult, IsStagedAt, IsStagingResultAt, IsStagingResultOfEvent, NetView, EachChangesOnlyCapacity, ChangesOnlyCapacity, IsStaged, IsStagingResultInNet}
use Rattle.synod.specs.Ready.{IsStagingResult as ReadiesStep}
use Rattle.net.proofs.GrowingLists.{at_set}
use Rattle.net.proofs.HistoryLemmas.{next_is, node_shown, no_node_shown, own_weights, rooms_stay}
use Rattle.net.proofs.EventsStaged.{comes_offer, comes_begin, comes_restart, comes_packet, not_mapped, mapped, more_room, still_same, still_set, nodes_still}

-- A step that a node has readied.

-- a step that a node has readied is ready as the work of its event
pub made_staged : {V : Type 0} (old new : Core V) (k : ℕ) (e f : Event V) (r : Result (StepResult V) Refusal) (made : ReadyView V) → ReadiesStep new r (Ok made) → f ≡ e → IsOfEvent e (steps made) → AllByRecursion (IsPost (length old.node.weights)) made.step.posts
    → IsStagingResultAt old new k e r (Ok (record { at = k; event = f; work = steps made }))
made_staged {V} old new k e f (Ok step) made h same kind posts = record {
  at = refl;
  event = same;
  ready = (ap (λ (c : Core V). c.node) (sym h.0), subst (λ (c : Core V). KeepsCapacity c new) (sym h.0) (same_room new));
  is_step = h.1;
  kind = kind;
  posts = posts;
}
made_staged old new k e f (Err refusal) made h same kind posts = elim h [ ]

-- a packet read at a number is the one that a look-up at this number gives
pub packet_is : {V : Type 0} (ps : List (Packet V)) (number : ℕ) (p q : Packet V) → p ≡ get_or ps number p → slice_get ps number ≡ Some q → p ≡ q
packet_is ps number p q is at = let both : Some p ≡ Some q = sym (slice_get_read ps (length ps) number p refl (slice_get_within ps number q at) is) ∙ at in cc

-- From the answer of a node to that of the net, `view` being the fields.

module _ {V : Type 0} (size : V → ℕ) (view now : NetView V) (seen : view ≡ now) (h : AreOfWorld size view.history view.cores view.packets) (low : length now.history.events < now.history.event_limit) where
  -- the history of the fields is below the limit of events
  still_low : length view.history.events < view.history.event_limit
  still_low = subst (λ (n : NetView V). length n.history.events < n.history.event_limit) (sym seen) low

  -- the history with the event leads to the result of the event in the world
  met_is : (e : Event V) (r : Result (World V) StepFault) → event_result_without_limit size h.world e ≡ r → world_of size (with_event now.history e) ≡ r
  met_is e r is = ap (λ (n : NetView V). world_of size (with_event n.history e)) (sym seen) ∙ next_is size view.history view.cores view.packets h still_low e ∙ is

  -- if an event meets a fault in the world, this fault is a right answer
  gives_fault : (e : Event V) (fault : StepFault) → event_result_without_limit size h.world e ≡ Err fault → (net : NetView V) → IsStagingResultInNet size net e (world_of size (with_event now.history e)) (Err fault)
  gives_fault e fault meets net = subst (λ (r : Result (World V) StepFault). IsStagingResultInNet size net e r (Err fault)) (sym (met_is e (Err fault) meets)) refl

  -- if the packet does not exist, NoPacket is a right answer
  pub gives_no_packet : (e : Event V) → node_of_event view.packets e ≡ None → (net : NetView V) → IsStagingResultInNet size net e (world_of size (with_event now.history e)) (Err NoPacket)
  gives_no_packet (Deliver number) none net =
      gives_fault (Deliver number) NoPacket (ap (λ (o : Option (Packet V)). delivered h.world o) (ap (λ (ps : List (Packet V)). slice_get ps number) h.posted ∙ not_mapped (slice_get view.packets number) none)) net
  gives_no_packet (Offer k v) none net = let no : Some k ≡ None = none in cc
  gives_no_packet (Begin k) none net = let no : Some k ≡ None = none in cc
  gives_no_packet (Restart k) none net = let no : Some k ≡ None = none in cc

  -- the result of delivering packet p is the answer of the node to which p is addressed
  delivered_at : (number : ℕ) (p : Packet V) → slice_get view.packets number ≡ Some p → event_result_without_limit size h.world (Deliver number) ≡ at_node h.world p.to (λ n. Ok (on_packet n p)) (slice_get h.world.nodes p.to)
  delivered_at number p is = ap (λ (o : Option (Packet V)). delivered h.world o) (ap (λ (ps : List (Packet V)). slice_get ps number) h.posted ∙ is)

  -- if the node does not exist, NoNode is a right answer
  gives_nowhere : (k : ℕ) (e : Event V) (make : Node V → Result (StepResult V) Refusal) → event_result_without_limit size h.world e ≡ at_node h.world k make (slice_get h.world.nodes k) → length view.cores ≤ k
      → (net : NetView V) → IsStagingResultInNet size net e (world_of size (with_event now.history e)) (Err NoNode)
  gives_nowhere k e make at past = gives_fault e NoNode (at ∙ ap (λ (o : Option (Node V)). at_node h.world k make o) (no_node_shown size view.history view.cores view.packets h k past))

  -- if the number of an event's node is past the end of the cores, NoNode is a right answer
  pub gives_no_node : (k : ℕ) (e : Event V) → node_of_event view.packets e ≡ Some k → length view.cores ≤ k → (net : NetView V) → IsStagingResultInNet size net e (world_of size (with_event now.history e)) (Err NoNode)
  gives_no_node k (Offer j v) at past = gives_nowhere j (Offer j v) (λ n. offer_result size n v) refl (let same : j ≡ k = cc in omega (arith, past, same))
  gives_no_node k (Begin j) at past = gives_nowhere j (Begin j) begin_result refl (let same : j ≡ k = cc in omega (arith, past, same))
  gives_no_node k (Deliver number) at past =
      let p = mapped (slice_get view.packets number) k at in
      gives_nowhere p.0.to (Deliver number) (λ n. Ok (on_packet n p.0)) (delivered_at number p.0 p.1) (let to = p.2 in omega (arith, past, to))
  gives_no_node k (Restart j) at past = gives_nowhere j (Restart j) (λ n. Ok (restarted n)) refl (let same : j ≡ k = cc in omega (arith, past, same))

  -- each packet is a post by the weights of any existing node
  pub posts_at : (k : ℕ) (core : Core V) → k < length view.cores → core ≡ get_or view.cores k core → AllByRecursion (IsPost (length core.node.weights)) view.packets
  posts_at k core in_cores is = subst (λ (ws : List ℕ). AllByRecursion (IsPost (length ws)) view.packets) (sym (own_weights size view.history view.cores view.packets h k core in_cores is)) h.posts

  -- The cores with `new`, which has the same node, at number k.
  module _ (k : ℕ) (core new : Core V) (in_cores : k < length view.cores) (is : core ≡ get_or view.cores k core) (same : new.node ≡ core.node) where
    abbrev left : NetView V
    left = record view { cores = set view.cores k new }

    -- an event that is staged at node k is staged in the net
    staged_here : (e : Event V) (step : StepResult V) → HasResult size view.packets k core.node e (Ok step) → (staged : StagedEvent V) → IsStagedAt core new k e step staged → IsStaged size left staged
    staged_here e step has_result staged d = record {
      core = new;
      at = ap (λ (i : ℕ). slice_get (set view.cores k new) i) d.at ∙ at_set view.cores k new core (slice_get_read view.cores (length view.cores) k core refl in_cores is);
      ready = d.ready;
      has_result = subst (λ (i : ℕ). HasResult size view.packets i new.node staged.event (Ok (step_of staged.work new.node))) (sym d.at)
          (subst (λ (f : Event V). HasResult size view.packets k new.node f (Ok (step_of staged.work new.node))) (sym d.event)
          (subst (λ (n : Node V). HasResult size view.packets k n e (Ok (step_of staged.work n))) (sym same)
          (subst (λ (s : StepResult V). HasResult size view.packets k core.node e (Ok s)) (sym d.is_step) has_result)));
      posts = subst (λ (ws : List ℕ). AllByRecursion (IsPost (length ws)) (posts_of staged.work)) (own_weights size view.history view.cores view.packets h k core in_cores is) d.posts;
    }

    -- an answer that is right for the node's step or refusal is right for the result in the world
    by_answer : (e : Event V) (r : Result (StepResult V) Refusal) → HasResult size view.packets k core.node e r → (result : Result (StagedEvent V) StepFault) → IsStagingResultAt core new k e r result
        → (met : Result (World V) StepFault) → met ≡ after_step_or_fault h.world k r → IsStagingResultInNet size left e met result
    by_answer e (Ok step) has_result (Ok staged) d met is = subst (λ (x : Result (World V) StepFault). IsStagingResultInNet size left e x (Ok staged)) (sym is) (staged_here e step has_result staged d, d.event, d.kind)
    by_answer e (Ok step) has_result (Err fault) d met is = subst (λ (x : Result (World V) StepFault). IsStagingResultInNet size left e x (Err fault)) (sym is) d
    by_answer e (Err refusal) has_result (Ok staged) d met is = elim d [ ]
    by_answer e (Err refusal) has_result (Err fault) d met is = subst (λ (x : Result (World V) StepFault). IsStagingResultInNet size left e x (Err fault)) (sym is) d

    -- an answer that is right for the result of the event at the node is right for the history
    gives_node : (e : Event V) (r : Result (StepResult V) Refusal) → HasResult size view.packets k core.node e r → (result : Result (StagedEvent V) StepFault) → IsStagingResultAt core new k e r result
        → IsStagingResultInNet size left e (world_of size (with_event now.history e)) result
    gives_node e r has_result result readies =
        by_answer e r has_result result readies (world_of size (with_event now.history e))
        (met_is e (after_step_or_fault h.world k r) (has_result h.world [] (h.posted ∙ sym (append-nil view.packets)) (node_shown size view.history view.cores view.packets h k core in_cores is)).event_result)

    -- for each event of node k, an answer that is right for the node is right for the history
    pub gives_event_here : (e : Event V) → node_of_event view.packets e ≡ Some k → (result : Result (StagedEvent V) StepFault) → IsStagingResultOfEvent size view.packets core new k e result → IsStagingResultInNet size left e (world_of size (with_event now.history e)) result
    gives_event_here (Offer j v) at result readies =
        let same : j ≡ k = cc in
        gives_node (Offer j v) (offer_result size core.node v) (subst (λ (i : ℕ). HasResult size view.packets k core.node (Offer i v) (offer_result size core.node v)) (sym same) (comes_offer size view.packets k core.node v)) result readies
    gives_event_here (Begin j) at result readies =
        let same : j ≡ k = cc in
        gives_node (Begin j) (begin_result core.node) (subst (λ (i : ℕ). HasResult size view.packets k core.node (Begin i) (begin_result core.node)) (sym same) (comes_begin size view.packets k core.node)) result readies
    gives_event_here (Deliver number) at result readies =
        let p = mapped (slice_get view.packets number) k at in
        gives_node (Deliver number) (Ok (on_packet core.node p.0)) (comes_packet size view.packets k core.node number p.0 p.1 p.2) result (readies p.0 p.1)
    gives_event_here (Restart j) at result readies =
        let same : j ≡ k = cc in
        gives_node (Restart j) (Ok (restarted core.node)) (subst (λ (i : ℕ). HasResult size view.packets k core.node (Restart i) (Ok (restarted core.node))) (sym same) (comes_restart size view.packets k core.node)) result readies

    -- only rooms change, if node k has no less room
    pub still_here : KeepsCapacity core new → ChangesOnlyCapacity now left
    still_here room = subst (λ (n : NetView V). ChangesOnlyCapacity n left) seen record {
      history = refl;
      cores = still_set view.cores k core new is same room;
      packets = refl;
      packet_capacity = omega arith;
      event_capacity = omega arith;
    }

    -- if node k has no less room, the cores and packets are still of the world
    pub of_world_here : KeepsCapacity core new → AreOfWorld size view.history (set view.cores k new) view.packets
    of_world_here room = rooms_stay size view.history view.cores view.packets h (set view.cores k new) (nodes_still view.cores (set view.cores k new) (still_set view.cores k core new is same room))

-- if packets and events get more room, only rooms change
pub still_room : {V : Type 0} (view now : NetView V) (packets : List (Packet V)) (events : List (Event V)) (packet_capacity event_capacity : ℕ) → view ≡ now → packets ≡ view.packets → events ≡ view.history.events
    → view.packet_capacity ≤ packet_capacity → view.event_capacity ≤ event_capacity
    → ChangesOnlyCapacity now (record { history = record { weights = view.history.weights; event_limit = view.history.event_limit; begins = view.history.begins; events = events }; cores = view.cores; packets = packets; packet_capacity = packet_capacity; event_capacity = event_capacity })
still_room {V} view now packets events packet_capacity event_capacity seen same_packets same_events p e =
    let new : NetView V = record { history = record { weights = view.history.weights; event_limit = view.history.event_limit; begins = view.history.begins; events = events }; cores = view.cores; packets = packets; packet_capacity = packet_capacity; event_capacity = event_capacity } in
    subst (λ (n : NetView V). ChangesOnlyCapacity n new) seen record {
      history = ap (λ (es : List (Event V)). let t : History V = record { weights = view.history.weights; event_limit = view.history.event_limit; begins = view.history.begins; events = es } in t) same_events;
      cores = still_same view.cores;
      packets = same_packets;
      packet_capacity = p;
      event_capacity = e;
    }

-- if two views are equal, only rooms differ
pub not_moved : {V : Type 0} (view now : NetView V) → view ≡ now → ChangesOnlyCapacity now view
not_moved view now seen = still_room view now view.packets view.history.events view.packet_capacity view.event_capacity seen refl refl (omega arith) (omega arith)

-- changing only rooms is transitive
pub still_more : {V : Type 0} (a b c : NetView V) → ChangesOnlyCapacity a b → ChangesOnlyCapacity b c → ChangesOnlyCapacity a c
still_more a b c one two = record {
  history = two.history ∙ one.history;
  cores = cores_more a.cores b.cores c.cores one.cores two.cores;
  packets = two.packets ∙ one.packets;
  packet_capacity = let x = one.packet_capacity in let y = two.packet_capacity in omega (arith, x, y);
  event_capacity = let x = one.event_capacity in let y = two.event_capacity in omega (arith, x, y);
} where
  cores_more : {V : Type 0} (xs ys zs : List (Core V)) → EachChangesOnlyCapacity xs ys → EachChangesOnlyCapacity ys zs → EachChangesOnlyCapacity xs zs
  cores_more [] [] [] h k = tt
  cores_more (x ∷ xs) (y ∷ ys) (z ∷ zs) h k = (k.0 ∙ h.0, more_room x y z h.1 k.1, cores_more xs ys zs h.2 k.2)
  cores_more [] (y ∷ ys) zs h k = elim h [ ]
  cores_more (x ∷ xs) [] zs h k = elim h [ ]
  cores_more [] [] (z ∷ zs) h k = elim k [ ]
  cores_more (x ∷ xs) (y ∷ ys) [] h k = elim k [ ]
