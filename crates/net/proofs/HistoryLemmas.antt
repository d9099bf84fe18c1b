-- The world after a history, and after one more event.
use Rattle.net.proofs.Words.{◌≡◌, ℕ, zero, suc, ◌+◌, ◌<◌, ◌≤◌, Bool, true, false, ◌==◌, if◌then◌else◌, List, [], ◌∷◌, ◌++◌, length, take, get_or, set, slice_get, Option, Some, None, Result, Ok, Err, refl, ap, sym, ◌∙◌, subst, arith, le_of_suc-le-suc, AllByRecursion, Packet, IsWeights, IsPost, nat_tests, Refusal, Node, StepResult, restarted_node, parts_of, KeptPart, RecordView, map-append, length-map, take_more, new_parts, new_history, NetView, IfOk, offer_result, begin_result, on_packet, restarted, log_of, Core, Event, Offer, Begin, Deliver, Restart, StepFault, EventsSpent, World, nodes_with, resumed, first_world, after_step, after_step_or_fault, at_node, delivered, event_result_without_limit, event_result, events_result, log_at, log_after, packets_after, History, nodes_of, AreOfWorld, world_of, with_event}
use Rattle.net.proofs.EveryEvent.{IfTaken, if_taken, spent_or}
use Rattle.net.proofs.TwoMoments.{Lasts, events_result-append, lasts_happens, lasts_itself, lasts_from}
use Rattle.net.proofs.OwnNumbers.{IsOwn, own_after}
use Rattle.net.specs.History.{kept_parts_of}
use Rattle.net.specs.declared.ghost_value.GhostValue.{GhostValue}
use Rattle.synod.specs.Record.{new_kept}

-- Nodes that begin with records, one by one.

pub nodes_of-push : {V : Type 0} (cores : List (Core V)) (core : Core V) → nodes_of (cores ++ core ∷ []) ≡ nodes_of cores ++ core.node ∷ []
nodes_of-push [] core = refl
nodes_of-push (c ∷ cores) core = ap (λ ns. c.node ∷ ns) (nodes_of-push cores core)

-- how many nodes there are
pub length-nodes_with : {V : Type 0} (weights : List ℕ) (k : ℕ) (parts : List (KeptPart V)) → length (nodes_with weights k parts) ≡ length parts
length-nodes_with weights k [] = refl
length-nodes_with weights k (kept ∷ parts) = ap suc (length-nodes_with weights (suc k) parts)

pub length-nodes_of : {V : Type 0} (cores : List (Core V)) → length (nodes_of cores) ≡ length cores
length-nodes_of [] = refl
length-nodes_of (c ∷ cores) = ap suc (length-nodes_of cores)

pub nodes_with-append : {V : Type 0} (weights : List ℕ) (k : ℕ) (parts : List (KeptPart V)) (kept : KeptPart V) → nodes_with weights k (parts ++ kept ∷ []) ≡ nodes_with weights k parts ++ restarted_node (k + length parts) weights kept ∷ []
nodes_with-append {V} weights k [] kept = let e : k ≡ k + 0 = omega arith in ap (λ (j : ℕ). let ns : List (Node V) = restarted_node j weights kept ∷ [] in ns) e
nodes_with-append {V} weights k (p ∷ parts) kept =
    let e : suc k + length parts ≡ k + suc (length parts) = omega arith in
    ap (λ (ns : List (Node V)). restarted_node k weights p ∷ ns) (nodes_with-append weights (suc k) parts kept
    ∙ ap (λ (j : ℕ). nodes_with weights (suc k) parts ++ restarted_node j weights kept ∷ []) e)

-- cores that begin with records are as many
pub begun_count : {V : Type 0} (weights : List ℕ) (done : List (RecordView V)) (cores : List (Core V)) → nodes_of cores ≡ nodes_with weights 0 (kept_parts_of done) → length cores ≡ length done
begun_count {V} weights done cores begun =
    sym (length-nodes_of cores) ∙ ap (λ (ns : List (Node V)). length ns) begun ∙ length-nodes_with weights 0 (kept_parts_of done) ∙ length-map done (λ (r : RecordView V). r.kept)

-- if the cores begin with the records, so do they with one more
pub begun_more : {V : Type 0} (weights : List ℕ) (done : List (RecordView V)) (stored : RecordView V) (old new : List (Core V)) (core : Core V) → new ≡ old ++ core ∷ [] → core.node ≡ restarted_node (length old) weights stored.kept → nodes_of old ≡ nodes_with weights 0 (kept_parts_of done)
    → nodes_of new ≡ nodes_with weights 0 (kept_parts_of (done ++ stored ∷ []))
begun_more {V} weights done stored old new core pushed is before =
    let parts : List (KeptPart V) = kept_parts_of done in
    let count : length old ≡ 0 + length parts =
    (let a : length (nodes_of old) ≡ length old = length-nodes_of old in
    let b : length (nodes_of old) ≡ length parts = ap (λ (ns : List (Node V)). length ns) before ∙ length-nodes_with weights 0 parts in
    omega (arith, a, b)) in
    ap (λ (cores : List (Core V)). nodes_of cores) pushed ∙ nodes_of-push old core
    ∙ ap (λ (n : Node V). nodes_of old ++ n ∷ []) (is ∙ ap (λ (j : ℕ). restarted_node j weights stored.kept) count)
    ∙ ap (λ (ns : List (Node V)). ns ++ restarted_node (0 + length parts) weights stored.kept ∷ []) before
    ∙ sym (nodes_with-append weights 0 parts stored.kept)
    ∙ ap (λ (ps : List (KeptPart V)). nodes_with weights 0 ps) (sym (map-append (λ (r : RecordView V). r.kept) done (stored ∷ [])))

-- what is kept of the records, with one more
pub parts_more : {V : Type 0} (done : List (RecordView V)) (stored : RecordView V) (old new : List (GhostValue (RecordView V))) (one : GhostValue (RecordView V)) → new ≡ old ++ one ∷ [] → one.value ≡ stored → parts_of old ≡ kept_parts_of done → parts_of new ≡ kept_parts_of (done ++ stored ∷ [])
parts_more {V} done stored old new one pushed is before =
    ap (λ (gs : List (GhostValue (RecordView V))). parts_of gs) pushed
    ∙ map-append (λ (x : GhostValue (RecordView V)). x.value.kept) old (one ∷ [])
    ∙ ap (λ (ps : List (KeptPart V)). ps ++ one.value.kept ∷ []) before
    ∙ ap (λ (r : RecordView V). kept_parts_of done ++ r.kept ∷ []) is
    ∙ sym (map-append (λ (r : RecordView V). r.kept) done (stored ∷ []))

-- cores that begin with these kept parts, without packets and events, are of the world at the start
pub start_of_world : {V : Type 0} (size : V → ℕ) (weights : List ℕ) (limit : ℕ) → IsWeights weights → (parts begins : List (KeptPart V)) → begins ≡ parts → length parts ≡ length weights → (cores : List (Core V)) (packets : List (Packet V)) (events : List (Event V)) → nodes_of cores ≡ nodes_with weights 0 parts → events ≡ [] → packets ≡ []
    → AreOfWorld size (record { weights = weights; event_limit = limit; begins = begins; events = events }) cores packets
start_of_world {V} size weights limit are parts begins same counts cores packets events new no_events no_packets =
    subst (λ (es : List (Event V)). AreOfWorld size (record { weights = weights; event_limit = limit; begins = begins; events = es }) cores packets) (sym no_events)
    (subst (λ (ps : List (KeptPart V)). AreOfWorld size (record { weights = weights; event_limit = limit; begins = ps; events = [] }) cores packets) (sym same) record {
      world = resumed weights limit parts;
      is_after = refl;
      nodes = sym new;
      posted = sym no_packets;
      weights = are;
      count = counts;
      posts = subst (λ (ps : List (Packet V)). AllByRecursion (IsPost (length weights)) ps) (sym no_packets) tt;
    })

-- the records of new nodes are as many as the weights
pub new_parts-count : {V : Type 0} (weights : List ℕ) (records : List (RecordView V)) → kept_parts_of records ≡ new_parts weights → length records ≡ length weights
new_parts-count {V} weights records is =
    sym (length-map records (λ (r : RecordView V). r.kept)) ∙ ap (λ (ps : List (KeptPart V)). length ps) is ∙ length-map weights (λ (w : ℕ). let k : KeptPart V = new_kept in k)

-- a net that begins with the records of new nodes has a history of new nodes
pub resumed_new : {V : Type 0} (weights : List ℕ) (limit : ℕ) (records : List (RecordView V)) (r : Result (NetView V) StepFault)
    → IfOk r (λ net. net.history ≡ record { weights = weights; event_limit = limit; begins = kept_parts_of records; events = [] }) → kept_parts_of records ≡ new_parts weights → IfOk r (λ net. net.history ≡ new_history weights limit [])
resumed_new {V} weights limit records (Ok net) h is = h ∙ ap (λ (ps : List (KeptPart V)). let t : History V = record { weights = weights; event_limit = limit; begins = ps; events = [] } in t) is
resumed_new weights limit records (Err fault) h is = tt

-- new records for one more weight
pub new_records-push : {V : Type 0} (weights : List ℕ) (k : ℕ) (old new : List (RecordView V)) (stored : RecordView V) → new ≡ old ++ stored ∷ [] → stored.kept ≡ new_kept → kept_parts_of old ≡ new_parts (take k weights) → k < length weights → kept_parts_of new ≡ new_parts (take (k + 1) weights)
new_records-push {V} weights k old new stored pushed is before under =
    let more : take (k + 1) weights ≡ take k weights ++ get_or weights k 0 ∷ [] = take_more weights k 0 under in
    ap (λ (rs : List (RecordView V)). kept_parts_of rs) pushed
    ∙ map-append (λ (r : RecordView V). r.kept) old (stored ∷ [])
    ∙ ap (λ (ps : List (KeptPart V)). ps ++ stored.kept ∷ []) before
    ∙ ap (λ (p : KeptPart V). new_parts (take k weights) ++ p ∷ []) is
    ∙ sym (map-append (λ (w : ℕ). let p : KeptPart V = new_kept in p) (take k weights) (get_or weights k 0 ∷ []))
    ∙ ap (λ (ws : List ℕ). new_parts {V = V} ws) (sym more)

-- The nodes of the cores.

pub nodes_of-set : {V : Type 0} (cores : List (Core V)) (k : ℕ) (core : Core V) → nodes_of (set cores k core) ≡ set (nodes_of cores) k core.node
nodes_of-set [] k core = refl
nodes_of-set (c ∷ cores) zero core = refl
nodes_of-set (c ∷ cores) (suc k) core = ap (λ ns. c.node ∷ ns) (nodes_of-set cores k core)

-- if a core is read at index k, its node is at index k of the nodes
pub nodes_at : {V : Type 0} (cores : List (Core V)) (k : ℕ) (core : Core V) → k < length cores → core ≡ get_or cores k core → slice_get (nodes_of cores) k ≡ Some core.node
nodes_at [] k core low is = absurd (omega arith)
nodes_at {V} (c ∷ cores) zero core low is = ap (λ (x : Core V). let o : Option (Node V) = Some x.node in o) (sym is)
nodes_at (c ∷ cores) (suc k) core low is = nodes_at cores k core (le_of_suc-le-suc low) is

-- past the end of the cores there is no node
pub nodes_past : {V : Type 0} (cores : List (Core V)) (k : ℕ) → length cores ≤ k → slice_get (nodes_of cores) k ≡ None
nodes_past [] k past = refl
nodes_past (c ∷ cores) zero past = absurd (omega arith)
nodes_past (c ∷ cores) (suc k) past = nodes_past cores k (le_of_suc-le-suc past)

-- setting the element that is already at an index changes nothing
pub set_same : {A : Type 0} (xs : List A) (k : ℕ) (x : A) → slice_get xs k ≡ Some x → set xs k x ≡ xs
set_same [] k x is = refl
set_same {A} (y ∷ xs) zero x is = let same : y ≡ x = cc in ap (λ (z : A). z ∷ xs) (sym same)
set_same (y ∷ xs) (suc k) x is = ap (λ zs. y ∷ zs) (set_same xs k x is)

-- How many events were taken.

module _ {V : Type 0} (count : ℕ) (w : World V) (counted : w.event_count ≡ count) where
  abbrev Counts : Result (World V) StepFault → Type 0
  Counts r = IfTaken r (λ x. x.event_count ≡ count + 1)

  -- the answer of a node raises the count of events by one
  counts_at : (k : ℕ) (make : Node V → Result (StepResult V) Refusal) (o : Option (Node V)) → Counts (at_node w k make o)
  counts_at k make None = tt
  counts_at k make (Some n) = counts_answered (make n) where
    counts_answered : (r : Result (StepResult V) Refusal) → Counts (after_step_or_fault w k r)
    counts_answered (Ok step) = ap (λ (i : ℕ). i + 1) counted
    counts_answered (Err refusal) = tt

  -- a delivery raises the count of events by one
  counts_delivered : (o : Option (Packet V)) → Counts (delivered w o)
  counts_delivered None = tt
  counts_delivered (Some p) = counts_at p.to (λ n. Ok (on_packet n p)) (slice_get w.nodes p.to)

  -- each event raises the count of events by one
  pub counts_happens_at : (size : V → ℕ) (e : Event V) → Counts (event_result_without_limit size w e)
  counts_happens_at size (Offer k v) = counts_at k (λ n. offer_result size n v) (slice_get w.nodes k)
  counts_happens_at size (Begin k) = counts_at k begin_result (slice_get w.nodes k)
  counts_happens_at size (Deliver number) = counts_delivered (slice_get w.packets number)
  counts_happens_at size (Restart k) = counts_at k (λ n. Ok (restarted n)) (slice_get w.nodes k)

  -- each event raises the count of events by one, with the limit tested first
  counts_happens : (size : V → ℕ) (e : Event V) → Counts (event_result size w e)
  counts_happens size e = spent_or (λ x. x.event_count ≡ count + 1) (event_result_without_limit size w e) (w.event_count == w.event_limit) (counts_happens_at size e)

-- a list of events raises the count by its length
counts_all : {V : Type 0} (size : V → ℕ) (count : ℕ) (es : List (Event V)) (r : Result (World V) StepFault) → IfTaken r (λ x. x.event_count ≡ count) → IfTaken (events_result size es r) (λ x. x.event_count ≡ count + length es)
counts_all size count [] (Ok w) h = let e : w.event_count ≡ count + 0 = omega (arith, h) in e
counts_all size count [] (Err fault) h = tt
counts_all size count (e ∷ es) (Err fault) h = tt
counts_all {V} size count (e ∷ es) (Ok w) h =
    let step : (count + 1) + length es ≡ count + suc (length es) = omega arith in
    subst (λ (n : ℕ). IfTaken (events_result size es (event_result size w e)) (λ (x : World V). x.event_count ≡ n)) step (counts_all size (count + 1) es (event_result size w e) (counts_happens count w h size e))

-- the count of events of the world after a list of events is the length of the list
pub taken_count : {V : Type 0} (size : V → ℕ) (history : History V) (w : World V) → world_of size history ≡ Ok w → w.event_count ≡ length history.events
taken_count {V} size history w is_after = if_taken (λ (x : World V). x.event_count ≡ 0 + length history.events) (world_of size history) w is_after (counts_all size 0 history.events (Ok (first_world history)) refl) ∙ omega arith

-- One more event.

pub after-push : {V : Type 0} (size : V → ℕ) (history : History V) (w : World V) (e : Event V) → world_of size history ≡ Ok w → world_of size (with_event history e) ≡ event_result size w e
after-push size history w e is_after = events_result-append size history.events (e ∷ []) (Ok (first_world history)) ∙ ap (λ r. events_result size (e ∷ []) r) is_after

-- if the limit is not reached, the test leaves the result of an event as it is
pub not_spent : {V : Type 0} (r : Result (World V) StepFault) (t : Bool) → t ≡ false → (if t then Err EventsSpent else r) ≡ r
not_spent r true e = cc
not_spent r false e = refl

pub event_result-not_spent : {V : Type 0} (size : V → ℕ) (w : World V) (e : Event V) → w.event_count < w.event_limit → event_result size w e ≡ event_result_without_limit size w e
event_result-not_spent size w e low = not_spent (event_result_without_limit size w e) (w.event_count == w.event_limit) (grind (arith, nat_tests))

pub event_result-spent : {V : Type 0} (size : V → ℕ) (w : World V) (e : Event V) → w.event_count ≡ w.event_limit → event_result size w e ≡ Err EventsSpent
event_result-spent {V} size w e spent = all (w.event_count == w.event_limit) (grind (arith, nat_tests)) where
  all : (t : Bool) → t ≡ true → (if t then Err EventsSpent else event_result_without_limit size w e) ≡ Err EventsSpent
  all true d = refl
  all false d = cc

-- The world after a step.

module _ {V : Type 0} (size : V → ℕ) (old : History V) (cores : List (Core V)) (packets : List (Packet V)) (h : AreOfWorld size old cores packets) where
  -- cores with the same nodes, whatever their rooms, are of the same world
  pub rooms_stay : (others : List (Core V)) → nodes_of others ≡ nodes_of cores → AreOfWorld size old others packets
  rooms_stay others same = record {
    world = h.world;
    is_after = h.is_after;
    nodes = h.nodes ∙ sym same;
    posted = h.posted;
    weights = h.weights;
    count = h.count;
    posts = h.posts;
  }

  -- the core that is read at number k has the state of node k in the world
  pub node_shown : (k : ℕ) (core : Core V) → k < length cores → core ≡ get_or cores k core → slice_get h.world.nodes k ≡ Some core.node
  node_shown k core in_cores is = ap (λ (ns : List (Node V)). slice_get ns k) h.nodes ∙ nodes_at cores k core in_cores is

  -- past the end of the cores there is no node in the world
  pub no_node_shown : (k : ℕ) → length cores ≤ k → slice_get h.world.nodes k ≡ None
  no_node_shown k past = ap (λ (ns : List (Node V)). slice_get ns k) h.nodes ∙ nodes_past cores k past

  -- the limit of the world is that of the history
  pub same_limit : h.world.event_limit ≡ old.event_limit
  same_limit = (lasts_from size (first_world old) h.world old.events h.is_after).limit

  module _ (low : length old.events < old.event_limit) where
    -- below the limit of events, the history with one more event leads to the result of the event
    -- in the world
    pub next_is : (e : Event V) → world_of size (with_event old e) ≡ event_result_without_limit size h.world e
    next_is e = after-push size old h.world e h.is_after ∙ event_result-not_spent size h.world e (let count = taken_count size old h.world h.is_after in omega (arith, count, low, same_limit))

    -- if an event makes the step, the cores and packets with the step made are of the world after
    -- the event
    pub makes : (e : Event V) (k : ℕ) (new : Core V) (step : StepResult V) → event_result_without_limit size h.world e ≡ Ok (after_step h.world k step) → (more : List (Packet V)) → new.node ≡ step.node → more ≡ packets ++ step.posts
        → AllByRecursion (IsPost (length old.weights)) more → AreOfWorld size (with_event old e) (set cores k new) more
    makes e k new step at more node added posts = record {
      world = after_step h.world k step;
      is_after = next_is e ∙ at;
      nodes = ap (λ (ns : List (Node V)). set ns k step.node) h.nodes ∙ ap (λ (n : Node V). set (nodes_of cores) k n) (sym node) ∙ sym (nodes_of-set cores k new);
      posted = ap (λ (ps : List (Packet V)). ps ++ step.posts) h.posted ∙ sym added;
      weights = h.weights;
      count = h.count;
      posts = posts;
    }

-- Each node has the weights of the world.

-- the weights that a node has are those of the history
pub own_weights : {V : Type 0} (size : V → ℕ) (old : History V) (cores : List (Core V)) (packets : List (Packet V)) (h : AreOfWorld size old cores packets) (k : ℕ) (core : Core V) → k < length cores → core ≡ get_or cores k core → core.node.weights ≡ old.weights
own_weights {V} size old cores packets h k core low is =
    let own : IsOwn old.weights k core.node =
    (own_after size old.weights old.event_limit old.begins old.events h.world h.is_after).each k core.node
    (ap (λ (ns : List (Node V)). slice_get ns k) h.nodes ∙ nodes_at cores k core low is) in
    own.weights

-- if the limit of events is reached, each event meets EventsSpent
pub spent_met : {V : Type 0} (size : V → ℕ) (old now : History V) (cores : List (Core V)) (packets : List (Packet V)) → AreOfWorld size old cores packets → old ≡ now → (e : Event V) → length old.events ≡ old.event_limit → world_of size (with_event now e) ≡ Err EventsSpent
spent_met {V} size old now cores packets h seen e spent =
    let count = taken_count size old h.world h.is_after in
    subst (λ (t : History V). world_of size (with_event t e) ≡ Err EventsSpent) seen (after-push size old h.world e h.is_after ∙ event_result-spent size h.world e (count ∙ spent ∙ sym (same_limit size old cores packets h)))

-- The events of a run are within the limit.

-- if P and Q imply R and hold of the world, if the events are taken, so does R
if_both : {V : Type 0} (P Q R : World V → Type 0) (r : Result (World V) StepFault) → ((x : World V) → P x → Q x → R x) → IfTaken r P → IfTaken r Q → IfTaken r R
if_both P Q R (Ok x) both p q = both x p q
if_both P Q R (Err fault) both p q = tt

-- an event leaves the count of events within the limit
within_if : {V : Type 0} (size : V → ℕ) (w : World V) (e : Event V) (t : Bool) → (w.event_count == w.event_limit) ≡ t → w.event_count ≤ w.event_limit → IfTaken (if t then Err EventsSpent else event_result_without_limit size w e) (λ x. x.event_count ≤ x.event_limit)
within_if size w e true test low = tt
within_if {V} size w e false test low =
    let other : w.event_count < w.event_limit = grind (arith, nat_tests) in
    if_both (λ (x : World V). x.event_count ≡ w.event_count + 1) (Lasts w) (λ (x : World V). x.event_count ≤ x.event_limit) (event_result_without_limit size w e)
    (λ x count lasts. let limit = lasts.limit in omega (arith, count, limit, other))
    (counts_happens_at w.event_count w refl size e) (lasts_happens w w (lasts_itself w) size e)

-- a list of events leaves the count of events within the limit
within_all : {V : Type 0} (size : V → ℕ) (es : List (Event V)) (r : Result (World V) StepFault) → IfTaken r (λ x. x.event_count ≤ x.event_limit) → IfTaken (events_result size es r) (λ x. x.event_count ≤ x.event_limit)
within_all size [] r h = h
within_all size (e ∷ es) (Err fault) h = tt
within_all size (e ∷ es) (Ok w) h = within_all size es (event_result size w e) (within_if size w e (w.event_count == w.event_limit) refl h)

-- the events of a history that is taken are within the limit
pub events_within : {V : Type 0} (size : V → ℕ) (old now : History V) (cores : List (Core V)) (packets : List (Packet V)) → AreOfWorld size old cores packets → old ≡ now → length now.events ≤ now.event_limit
events_within {V} size old now cores packets h seen =
    let most = if_taken (λ (x : World V). x.event_count ≤ x.event_limit) (world_of size old) h.world h.is_after (within_all size old.events (Ok (first_world old)) (omega arith)) in
    let count = taken_count size old h.world h.is_after in
    let limit = same_limit size old cores packets h in
    subst (λ (t : History V). length t.events ≤ t.event_limit) seen (omega (arith, most, count, limit))

-- The world after the events, as the fields show it.

module _ {V : Type 0} (size : V → ℕ) (old now : History V) (cores : List (Core V)) (packets : List (Packet V)) (h : AreOfWorld size old cores packets) (seen : old ≡ now) where
  -- the history that is shown leads to the world of the fields
  world_is : world_of size now ≡ Ok h.world
  world_is = ap (λ (t : History V). world_of size t) (sym seen) ∙ h.is_after

  -- there are as many cores as weights
  pub count_shown : length cores ≡ length now.weights
  count_shown =
      let lasts = (lasts_from size (first_world old) h.world old.events h.is_after).count in
      sym (length-nodes_of cores) ∙ ap (λ (ns : List (Node V)). length ns) (sym h.nodes) ∙ lasts ∙ length-nodes_with old.weights 0 old.begins ∙ h.count ∙ ap (λ (t : History V). length t.weights) seen

  -- the log of the core that is read at number k is that of node k after the history
  pub log_shown : (k : ℕ) (core : Core V) → k < length cores → core ≡ get_or cores k core → log_after (world_of size now) k ≡ log_of core.node
  log_shown k core low at =
      ap (λ (r : Result (World V) StepFault). log_after r k) world_is
      ∙ ap (λ (o : Option (Node V)). log_at o) (ap (λ (ns : List (Node V)). slice_get ns k) h.nodes ∙ nodes_at cores k core low at)

  -- the packets after the history are those in the field
  pub packets_shown : packets_after (world_of size now) ≡ packets
  packets_shown = ap (λ (r : Result (World V) StepFault). packets_after r) world_is ∙ h.posted
