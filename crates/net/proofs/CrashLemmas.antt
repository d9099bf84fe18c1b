-- A crash of all nodes: the run before it, the restarts, and the run after it are one run.
use Rattle.net.proofs.Words.{◌≡◌, ℕ, suc, ◌+◌, ◌<◌, ◌≤◌, Bool, true, false, ◌==◌, List, [], ◌∷◌, ◌++◌, Option, Some, None, Result, Ok, Err, if◌then◌else◌, refl, ap, sym, ◌∙◌, subst, arith, append-nil, append_assoc, length, length-map, map, slice_get, set, nat_tests, KeptPart, Node, Packet, Refusal, StepResult, kept_of, offer_result, begin_result, on_packet, restarted, Event, Offer, Begin, Deliver, Restart, StepFault, EventsSpent, World, start, after_step, after_step_or_fault, at_node, delivered, event_result_without_limit, event_result, events_result, after, log_at, IsAfter, LogsAgree, Agree}
use Rattle.synod.specs.Node.{restarted_node}
use Rattle.net.specs.World.{new_parts, nodes_with, resumed}
use Rattle.net.specs.Crash.{kept_parts, restarts_from, shifted, IsOneRun, CrashesOnlyRestart, LogsAgreeAcrossCrash}
use Rattle.net.proofs.Ledger.{Ledger}
use Rattle.net.proofs.Invariant.{NodesHold}
use Rattle.net.proofs.EveryEvent.{IfTaken, if_taken, holds_after}
use Rattle.net.proofs.TwoMoments.{events_result-append, world_lasts}
use Rattle.net.proofs.HistoryLemmas.{event_result-not_spent}
use Rattle.net.proofs.LogsAgree.{logs_of_nodes_agree}

-- what stands behind another list is read at its place there
behind : {A : Type 0} (xs ys : List A) (n : ℕ) → slice_get (xs ++ ys) (length xs + n) ≡ slice_get ys n
behind [] ys n = let e : 0 + n ≡ n = omega arith in ap (λ (i : ℕ). slice_get ys i) e
behind (x ∷ xs) ys n = let e : suc (length xs) + n ≡ suc (length xs + n) = omega arith in rw e (behind xs ys n)

-- A world that goes on as another one does, which began later.

module _ {V : Type 0} (size : V → ℕ) (count limit total : ℕ) (lost : List (Packet V)) (room : count + limit ≤ total) where
  -- world y has the nodes of x, and the packets of x behind those that are lost
  pub record Follows (x y : World V) : Type 0 where
    pub weights : y.weights ≡ x.weights
    pub nodes : y.nodes ≡ x.nodes
    pub packets : y.packets ≡ lost ++ x.packets
    pub counted : y.event_count ≡ count + x.event_count
    pub few : x.event_count ≤ limit
    pub limit_is : x.event_limit ≡ limit
    pub total_is : y.event_limit ≡ total

  -- the result is a world that follows x
  pub record Meets (r : Result (World V) StepFault) (x : World V) : Type 0 where
    pub world : World V
    pub is : r ≡ Ok world
    pub follows : Follows x world

  module _ (x y : World V) (h : Follows x y) (low : x.event_count < limit) where
    meets_step : (k : ℕ) (r : Result (StepResult V) Refusal) → IfTaken (after_step_or_fault x k r) (Meets (after_step_or_fault y k r))
    meets_step k (Err refusal) = tt
    meets_step k (Ok step) = record {
      world = after_step y k step;
      is = refl;
      follows = record {
        weights = h.weights;
        nodes = ap (λ (ns : List (Node V)). set ns k step.node) h.nodes;
        packets = ap (λ (ps : List (Packet V)). ps ++ step.posts) h.packets ∙ append_assoc lost x.packets step.posts;
        counted = omega (arith, h.counted);
        few = omega arith;
        limit_is = h.limit_is;
        total_is = h.total_is;
      };
    }

    meets_at : (k : ℕ) (make : Node V → Result (StepResult V) Refusal) (o : Option (Node V)) → IfTaken (at_node x k make o) (Meets (at_node y k make o))
    meets_at k make None = tt
    meets_at k make (Some n) = meets_step k (make n)

    meets_node : (k : ℕ) (make : Node V → Result (StepResult V) Refusal) → IfTaken (at_node x k make (slice_get x.nodes k)) (Meets (at_node y k make (slice_get y.nodes k)))
    meets_node k make = subst (λ (ns : List (Node V)). IfTaken (at_node x k make (slice_get x.nodes k)) (Meets (at_node y k make (slice_get ns k)))) (sym h.nodes) (meets_at k make (slice_get x.nodes k))

    meets_delivered : (o : Option (Packet V)) → IfTaken (delivered x o) (Meets (delivered y o))
    meets_delivered None = tt
    meets_delivered (Some p) = meets_node p.to (λ n. Ok (on_packet n p))

    -- the packet of the number in x has the shifted number in y
    same_packet : (number : ℕ) → slice_get y.packets (length lost + number) ≡ slice_get x.packets number
    same_packet number = ap (λ (ps : List (Packet V)). slice_get ps (length lost + number)) h.packets ∙ behind lost x.packets number

    meets_event : (e : Event V) → IfTaken (event_result_without_limit size x e) (Meets (event_result_without_limit size y (shifted (length lost) e)))
    meets_event (Offer k v) = meets_node k (λ n. offer_result size n v)
    meets_event (Begin k) = meets_node k begin_result
    meets_event (Deliver number) = subst (λ (o : Option (Packet V)). IfTaken (delivered x (slice_get x.packets number)) (Meets (delivered y o))) (sym (same_packet number)) (meets_delivered (slice_get x.packets number))
    meets_event (Restart k) = meets_node k (λ n. Ok (restarted n))

    -- the limit of y is not reached either
    unspent : (e : Event V) → event_result size y e ≡ event_result_without_limit size y e
    unspent e = event_result-not_spent size y e (omega (arith, h.counted, h.total_is))

    meets_unspent : (e : Event V) → IfTaken (event_result_without_limit size x e) (Meets (event_result size y (shifted (length lost) e)))
    meets_unspent e = subst (λ (r : Result (World V) StepFault). IfTaken (event_result_without_limit size x e) (Meets r)) (sym (unspent (shifted (length lost) e))) (meets_event e)

  -- what x takes, y takes with packets numbered behind those that are lost
  meets_one : (x y : World V) → Follows x y → (e : Event V) → IfTaken (event_result size x e) (Meets (event_result size y (shifted (length lost) e)))
  meets_one x y h e = by_limit (x.event_count == x.event_limit) refl where
    by_limit : (t : Bool) → (x.event_count == x.event_limit) ≡ t → IfTaken (if t then Err EventsSpent else event_result_without_limit size x e) (Meets (event_result size y (shifted (length lost) e)))
    by_limit true spent = tt
    by_limit false spent = meets_unspent x y h (let few : x.event_count ≤ limit = h.few in let limit_is : x.event_limit ≡ limit = h.limit_is in grind (arith, nat_tests)) e

  stopped : (es : List (Event V)) (fault : StepFault) (P : World V → Type 0) → IfTaken (events_result size es (Err fault)) P
  stopped [] fault P = tt
  stopped (e ∷ es) fault P = tt

  -- if the one result is a world that follows the other, so are the results of further events
  meets_rest : (es : List (Event V)) → ((z u : World V) → Follows z u → IfTaken (events_result size es (Ok z)) (Meets (events_result size (map (shifted (length lost)) es) (Ok u))))
      → (r s : Result (World V) StepFault) → IfTaken r (Meets s) → IfTaken (events_result size es r) (Meets (events_result size (map (shifted (length lost)) es) s))
  meets_rest es more (Ok z) s m = subst (λ (s : Result (World V) StepFault). IfTaken (events_result size es (Ok z)) (Meets (events_result size (map (shifted (length lost)) es) s))) (sym m.is) (more z m.world m.follows)
  meets_rest es more (Err fault) s m = stopped es fault (Meets (events_result size (map (shifted (length lost)) es) s))

  -- what x takes, y takes
  pub meets_all : (es : List (Event V)) (x y : World V) → Follows x y → IfTaken (events_result size es (Ok x)) (Meets (events_result size (map (shifted (length lost)) es) (Ok y)))
  meets_all [] x y h = record { world = y; is = refl; follows = h }
  meets_all (e ∷ es) x y h = meets_rest es (λ z u g. meets_all es z u g) (event_result size x e) (event_result size y (shifted (length lost) e)) (meets_one x y h e)

-- A greater limit.

unshifted : {V : Type 0} (es : List (Event V)) → map (shifted 0) es ≡ es
unshifted [] = refl
unshifted (Offer k v ∷ es) = ap (λ ds. Offer k v ∷ ds) (unshifted es)
unshifted (Begin k ∷ es) = ap (λ ds. Begin k ∷ ds) (unshifted es)
unshifted (Deliver number ∷ es) = let e : 0 + number ≡ number = omega arith in rw e (ap (λ ds. Deliver number ∷ ds) (unshifted es))
unshifted (Restart k ∷ es) = ap (λ ds. Restart k ∷ ds) (unshifted es)

-- a world with the same nodes, that is after these events under the greater limit; the nodes began
-- with these parts
pub record IsRaised {V : Type 0} (size : V → ℕ) (weights : List ℕ) (parts : List (KeptPart V)) (total : ℕ) (events : List (Event V)) (w : World V) : Type 0 where
  pub world : World V
  pub is_after : events_result size events (Ok (resumed weights total parts)) ≡ Ok world
  pub nodes : world.nodes ≡ w.nodes
  pub packets : world.packets ≡ w.packets
  pub count : world.event_count ≡ w.event_count
  pub weights_are : world.weights ≡ w.weights
  pub few : w.event_count ≤ w.event_limit
  pub total_is : world.event_limit ≡ total
  pub limit_is : w.event_limit ≤ total

pub raised : {V : Type 0} (size : V → ℕ) (weights : List ℕ) (parts : List (KeptPart V)) (limit total : ℕ) (events : List (Event V)) (w : World V) → limit ≤ total → events_result size events (Ok (resumed weights limit parts)) ≡ Ok w → IsRaised size weights parts total events w
raised {V} size weights parts limit total events w more is_after =
    let room : 0 + limit ≤ total = omega arith in
    let begin : Follows size 0 limit total [] room (resumed weights limit parts) (resumed weights total parts) = record { weights = refl; nodes = refl; packets = refl; counted = refl; few = omega arith; limit_is = refl; total_is = refl } in
    let m = if_taken (Meets size 0 limit total [] room (events_result size (map (shifted 0) events) (Ok (resumed weights total parts)))) (events_result size events (Ok (resumed weights limit parts))) w is_after (meets_all size 0 limit total [] room events (resumed weights limit parts) (resumed weights total parts) begin) in
    record {
      world = m.world;
      is_after = ap (λ (es : List (Event V)). events_result size es (Ok (resumed weights total parts))) (sym (unshifted events)) ∙ m.is;
      nodes = m.follows.nodes;
      packets = m.follows.packets;
      count = let counted : m.world.event_count ≡ 0 + w.event_count = m.follows.counted in omega arith;
      weights_are = m.follows.weights;
      few = let few : w.event_count ≤ limit = m.follows.few in let is : w.event_limit ≡ limit = m.follows.limit_is in omega arith;
      total_is = m.follows.total_is;
      limit_is = let is : w.event_limit ≡ limit = m.follows.limit_is in omega arith;
    }

-- The restarts of all nodes.

abbrev restart_of : {V : Type 0} → Node V → Node V
restart_of n = restarted_node n.me n.weights (kept_of n)

pub record AllRestarted {V : Type 0} (y : World V) (nodes_left nodes : List (Node V)) (r : Result (World V) StepFault) : Type 0 where
  pub world : World V
  pub is : r ≡ Ok world
  pub nodes_are : world.nodes ≡ nodes
  pub weights_are : world.weights ≡ y.weights
  pub limit_is : world.event_limit ≡ y.event_limit
  pub counted : world.event_count ≡ y.event_count + length nodes_left

at_seam : {A : Type 0} (done rest : List A) (x : A) → slice_get (done ++ x ∷ rest) (length done) ≡ Some x
at_seam [] rest x = refl
at_seam (y ∷ done) rest x = at_seam done rest x

set_seam : {A : Type 0} (done rest : List A) (x y : A) → set (done ++ x ∷ rest) (length done) y ≡ (done ++ y ∷ []) ++ rest
set_seam [] rest x y = refl
set_seam (z ∷ done) rest x y = ap (λ xs. z ∷ xs) (set_seam done rest x y)

length_more : {A : Type 0} (done : List A) (x : A) → length (done ++ x ∷ []) ≡ suc (length done)
length_more [] x = refl
length_more (y ∷ done) x = ap suc (length_more done x)

restart_all : {V : Type 0} (size : V → ℕ) (done rest : List (Node V)) (y : World V) → y.nodes ≡ done ++ rest → y.event_count + length rest ≤ y.event_limit
    → AllRestarted y rest (done ++ map restart_of rest) (events_result size (restarts_from (length done) (map kept_of rest)) (Ok y))
restart_all size done [] y nodes room = record { world = y; is = refl; nodes_are = nodes; weights_are = refl; limit_is = refl; counted = omega arith }
restart_all {V} size done (n ∷ rest) y nodes room =
    let z : World V = after_step y (length done) (restarted n) in
    let taken : event_result size y (Restart (length done)) ≡ Ok z =
    event_result-not_spent size y (Restart (length done)) (omega arith)
    ∙ ap (λ (o : Option (Node V)). at_node y (length done) (λ n. Ok (restarted n)) o) (ap (λ (ns : List (Node V)). slice_get ns (length done)) nodes ∙ at_seam done rest n) in
    let next : z.nodes ≡ (done ++ restart_of n ∷ []) ++ rest = ap (λ (ns : List (Node V)). set ns (length done) (restart_of n)) nodes ∙ set_seam done rest n (restart_of n) in
    let room_left : z.event_count + length rest ≤ z.event_limit = omega arith in
    let more = restart_all size (done ++ restart_of n ∷ []) rest z next room_left in
    let place : length (done ++ restart_of n ∷ []) ≡ suc (length done) = length_more done (restart_of n) in
    record {
      world = more.world;
      is = ap (λ (r : Result (World V) StepFault). events_result size (restarts_from (suc (length done)) (map kept_of rest)) r) taken
          ∙ ap (λ (k : ℕ). events_result size (restarts_from k (map kept_of rest)) (Ok z)) (sym place) ∙ more.is;
      nodes_are = more.nodes_are ∙ append_assoc done (restart_of n ∷ []) (map restart_of rest);
      weights_are = more.weights_are;
      limit_is = more.limit_is;
      counted = omega (arith, more.counted);
    }

-- nodes that have their numbers and weights are restarted as nodes with their kept parts
restarted_are : {V : Type 0} (ws : List ℕ) (offers : List V) (l : Ledger V) (k : ℕ) (ns : List (Node V)) → NodesHold ws offers l k ns → map restart_of ns ≡ nodes_with ws k (map kept_of ns)
restarted_are ws offers l k [] h = refl
restarted_are {V} ws offers l k (n ∷ ns) h =
    ap (λ (i : ℕ). restarted_node i n.weights (kept_of n) ∷ map restart_of ns) h.0.me
    ∙ ap (λ (us : List ℕ). restarted_node k us (kept_of n) ∷ map restart_of ns) h.0.weights
    ∙ ap (λ (ms : List (Node V)). restarted_node k ws (kept_of n) ∷ ms) (restarted_are ws offers l (suc k) ns h.1)

-- One run.

module _ {V : Type 0} (size : V → ℕ) (ws : List ℕ) (limit : ℕ) (early : List (Event V)) (w : World V) (late_limit : ℕ) (before : IsAfter size ws limit early w) where
  abbrev parts : List (KeptPart V)
  parts = kept_parts w

  abbrev total : ℕ
  total = limit + length parts + late_limit

  up : IsRaised size ws (new_parts ws) total early w
  up = raised size ws (new_parts ws) limit total early w (omega arith) before

  same_count : length parts ≡ length w.nodes
  same_count = length-map w.nodes (kept_of {V = V})

  weights_are : w.weights ≡ ws
  weights_are = (world_lasts size ws limit [] early (start ws limit) w refl before).weights

  w_limit : w.event_limit ≡ limit
  w_limit = (world_lasts size ws limit [] early (start ws limit) w refl before).limit

  room : up.world.event_count + length w.nodes ≤ up.world.event_limit
  room = omega (arith, up.count, up.few, up.total_is, w_limit, same_count)

  restarted_all : AllRestarted up.world w.nodes (map restart_of w.nodes) (events_result size (restarts_from 0 parts) (Ok up.world))
  restarted_all = restart_all size [] w.nodes up.world up.nodes room

  nodes_are : restarted_all.world.nodes ≡ nodes_with ws 0 parts
  nodes_are =
      let h = holds_after size ws limit early w before in
      restarted_all.nodes_are ∙ restarted_are w.weights _ h.ledger 0 w.nodes h.nodes ∙ ap (λ (us : List ℕ). nodes_with us 0 parts) weights_are

  room_left : restarted_all.world.event_count + late_limit ≤ total
  room_left = omega (arith, restarted_all.counted, up.count, up.few, w_limit, same_count)

  begin : Follows size restarted_all.world.event_count late_limit total restarted_all.world.packets room_left (resumed ws late_limit parts) restarted_all.world
  begin = record {
    weights = restarted_all.weights_are ∙ up.weights_are ∙ weights_are;
    nodes = nodes_are;
    packets = sym (append-nil restarted_all.world.packets);
    counted = omega arith;
    few = omega arith;
    limit_is = refl;
    total_is = restarted_all.limit_is ∙ up.total_is;
  }

  -- the packets posted before, those of the restarts among them
  pub lost : List (Packet V)
  lost = restarted_all.world.packets

  module _ (late : List (Event V)) (x : World V) (after_crash : events_result size late (Ok (resumed ws late_limit parts)) ≡ Ok x) where
    abbrev later : List (Event V)
    later = map (shifted (length restarted_all.world.packets)) late

    meets : Meets size restarted_all.world.event_count late_limit total restarted_all.world.packets room_left (events_result size later (Ok restarted_all.world)) x
    meets = if_taken (Meets size restarted_all.world.event_count late_limit total restarted_all.world.packets room_left (events_result size later (Ok restarted_all.world))) (events_result size late (Ok (resumed ws late_limit parts))) x after_crash
        (meets_all size restarted_all.world.event_count late_limit total restarted_all.world.packets room_left late (resumed ws late_limit parts) restarted_all.world begin)

    pub one_run : IsOneRun size ws total early parts lost late x
    unfolding lost
    one_run = record {
      world = meets.world;
      is_after =
          events_result-append size early (restarts_from 0 parts ++ later) (Ok (start ws total))
          ∙ ap (λ (r : Result (World V) StepFault). events_result size (restarts_from 0 parts ++ later) r) up.is_after
          ∙ events_result-append size (restarts_from 0 parts) later (Ok up.world)
          ∙ ap (λ (r : Result (World V) StepFault). events_result size later r) restarted_all.is
          ∙ meets.is;
      nodes = meets.follows.nodes;
      packets = meets.follows.packets;
    }

pub crashes_only_restart : {V : Type 0} → CrashesOnlyRestart V
crashes_only_restart size ws limit early w late_limit before = (lost size ws limit early w late_limit before, λ late x after_crash. one_run size ws limit early w late_limit before late x after_crash)

-- logs of the same nodes agree
same_logs : {V : Type 0} (v w x y : World V) → v.nodes ≡ x.nodes → w.nodes ≡ y.nodes → LogsAgree v w → LogsAgree x y
same_logs {V} v w x y first second agree j k =
    subst (λ (ns : List (Node V)). Agree (log_at (slice_get ns j)) (log_at (slice_get y.nodes k))) first
    (subst (λ (ns : List (Node V)). Agree (log_at (slice_get v.nodes j)) (log_at (slice_get ns k))) second (agree j k))

pub logs_agree_across_crash : {V : Type 0} → LogsAgreeAcrossCrash V
logs_agree_across_crash {V} size ws limit early more v w late_limit late x first second after_crash =
    let one = one_run size ws limit (early ++ more) w late_limit second late x after_crash in
    let total : ℕ = limit + length (kept_parts w) + late_limit in
    let tail : List (Event V) = restarts_from 0 (kept_parts w) ++ map (shifted (length (lost size ws limit (early ++ more) w late_limit second))) late in
    let up : IsRaised size ws (new_parts ws) total early v = raised size ws (new_parts ws) limit total early v (omega arith) first in
    let whole : IsAfter size ws total (early ++ (more ++ tail)) one.world = ap (λ (es : List (Event V)). after size ws total es) (sym (append_assoc early more tail)) ∙ one.is_after in
    same_logs up.world one.world v x up.nodes one.nodes (logs_of_nodes_agree size ws total early (more ++ tail) up.world one.world up.is_after whole)
