-- Processes whose nodes begin with the same kept parts, but for nodes at which nothing happens; and
-- a process that goes on with an earlier run.
use Rattle.net.proofs.Words.{◌≡◌, ◌⊎◌, ◌≢◌, ℕ, zero, suc, ◌+◌, ◌==◌, Bool, true, false, List, [], ◌∷◌, ◌++◌, Option, Some, None, Result, Ok, Err, inl, inr, refl, ap, sym, ◌∙◌, subst, arith, append_assoc, append-nil, length, map, map-append, option_map, slice_get, slice_get-map, set, nat_tests, KeptPart, Node, Packet, Refusal, StepResult, kept_of, restarted_node, offer_result, begin_result, on_packet, restarted, Event, Offer, Begin, Deliver, Restart, StepFault, EventsSpent, World, start, resumed, new_parts, nodes_with, after_step, after_step_or_fault, at_node, delivered, event_result_without_limit, event_result, events_result, log, log_at, IsPrefixOf, Agree, AreOfOthers, kept_part, node_of, node_of_event, History, first_world, world_of, IsMoment, Agreement}
use Rattle.net.specs.Crash.{kept_parts, restarts_from, shifted, IsOneRun}
use Rattle.net.specs.Resumed.{IsIdle, RunBefore, joined, one_run, HasLogsAfter, IsMomentOfEither, GoesOn, HistoriesGoOn, IsLeftByRun, RunsAreLeft, NewPartsAreLeft}
use Rattle.net.proofs.GrowingLists.{at_set_other}
use Rattle.net.proofs.Beginnings.{then_begins}
use Rattle.net.proofs.HistoryLemmas.{not_spent, event_result-spent}
use Rattle.net.proofs.CrashLemmas.{lost, IsRaised, raised}
use Rattle.net.proofs.CrashLemmas.{one_run as run_across}
use Rattle.net.proofs.AgreementLemmas.{agreement_of_new}

-- what is read after a set at the same place
pub set_read : {A : Type 0} (xs : List A) (i : ℕ) (x : A) → slice_get (set xs i x) i ≡ option_map (λ y. x) (slice_get xs i)
set_read [] i x = refl
set_read (y ∷ xs) zero x = refl
set_read (y ∷ xs) (suc i) x = set_read xs i x

-- Two worlds, x and y, of processes whose nodes began with the parts `first` and `second`. `IsSame`
-- holds of the nodes that are said to be the same in both, and `IsOther` of the others.

module _ {V : Type 0} (size : V → ℕ) (ws : List ℕ) (first second : List (KeptPart V)) (IsSame IsOther : ℕ → Type 0) where
  -- node j is the same in both; or nothing of what is to come happens there, and it is as it began
  abbrev pub SameOrIdle : World V → World V → List (Event V) → ℕ → Type 0
  SameOrIdle x y es j =
      (IsSame j × (slice_get y.nodes j ≡ slice_get x.nodes j))
      ⊎ (IsOther j × AreOfOthers size j (Ok x) es × (slice_get x.nodes j ≡ slice_get (nodes_with ws 0 first) j) × (slice_get y.nodes j ≡ slice_get (nodes_with ws 0 second) j))

  pub record Alike (es : List (Event V)) (x y : World V) : Type 0 where
    pub packets : y.packets ≡ x.packets
    pub counted : y.event_count ≡ x.event_count
    pub limit : y.event_limit ≡ x.event_limit
    pub each : (j : ℕ) → SameOrIdle x y es j

  abbrev pub Reaches : List (Event V) → Result (World V) StepFault → World V → Type 0
  Reaches es r x = (y : World V) × (r ≡ Ok y) × Alike es x y

  module _ (e : Event V) (es : List (Event V)) (x y : World V) (h : Alike (e ∷ es) x y) where
    -- the node of the event is the same in both
    own_node : (i : ℕ) → node_of x e ≡ Some i → slice_get y.nodes i ≡ slice_get x.nodes i
    own_node i is = elim (h.each i) [ inl same ↦ same.1 | inr idle ↦ absurd (idle.1.0 is) ]

    -- and is said to be so
    own_same : (i : ℕ) → node_of x e ≡ Some i → IsSame i
    own_same i is = elim (h.each i) [ inl same ↦ same.0 | inr idle ↦ absurd (idle.1.0 is) ]

    then_alike : (i : ℕ) → node_of x e ≡ Some i → (step : StepResult V) → event_result size x e ≡ Ok (after_step x i step) → Alike es (after_step x i step) (after_step y i step)
    then_alike i is step made = record {
      packets = ap (λ (ps : List (Packet V)). ps ++ step.posts) h.packets;
      counted = ap (λ (c : ℕ). c + 1) h.counted;
      limit = h.limit;
      each = λ j. by_test j (i == j) refl;
    } where
      by_test : (j : ℕ) (t : Bool) → (i == j) ≡ t → SameOrIdle (after_step x i step) (after_step y i step) es j
      by_test j true test =
          let same : i ≡ j = grind (arith, nat_tests) in
          let at_i : slice_get (set y.nodes i step.node) i ≡ slice_get (set x.nodes i step.node) i =
          set_read y.nodes i step.node ∙ ap (λ (o : Option (Node V)). option_map (λ n. step.node) o) (own_node i is) ∙ sym (set_read x.nodes i step.node) in
          inl (subst (λ (k : ℕ). IsSame k × (slice_get (set y.nodes i step.node) k ≡ slice_get (set x.nodes i step.node) k)) same (own_same i is, at_i))
      by_test j false test =
          let other : i ≢ j = grind (arith, nat_tests) in
          elim (h.each j) [
            | inl same ↦ inl (same.0, at_set_other y.nodes i j step.node other ∙ same.1 ∙ sym (at_set_other x.nodes i j step.node other))
            | inr idle ↦ inr (
              idle.0,
              subst (λ (r : Result (World V) StepFault). AreOfOthers size j r es) made idle.1.1,
              at_set_other x.nodes i j step.node other ∙ idle.2,
              at_set_other y.nodes i j step.node other ∙ idle.3,
            )
          ]

    reaches_answered : (i : ℕ) → node_of x e ≡ Some i → (r : Result (StepResult V) Refusal) → event_result size x e ≡ after_step_or_fault x i r → (z : World V) → after_step_or_fault x i r ≡ Ok z → Reaches es (after_step_or_fault y i r) z
    reaches_answered i is (Ok step) made z there =
        let same : after_step x i step ≡ z = cc in
        (after_step y i step, refl, subst (λ (u : World V). Alike es u (after_step y i step)) same (then_alike i is step made))
    reaches_answered i is (Err refusal) made z there = cc

    reaches_own : (i : ℕ) → node_of x e ≡ Some i → (make : Node V → Result (StepResult V) Refusal) (o : Option (Node V)) → event_result size x e ≡ at_node x i make o → (z : World V) → at_node x i make o ≡ Ok z → Reaches es (at_node y i make o) z
    reaches_own i is make None made z there = cc
    reaches_own i is make (Some n) made z there = reaches_answered i is (make n) made z there

    reaches_at : (i : ℕ) → node_of x e ≡ Some i → (make : Node V → Result (StepResult V) Refusal) → event_result size x e ≡ at_node x i make (slice_get x.nodes i) → (z : World V) → at_node x i make (slice_get x.nodes i) ≡ Ok z → Reaches es (at_node y i make (slice_get y.nodes i)) z
    reaches_at i is make made z there = subst (λ (o : Option (Node V)). Reaches es (at_node y i make o) z) (sym (own_node i is)) (reaches_own i is make (slice_get x.nodes i) made z there)

  reaches_delivered : (number : ℕ) (es : List (Event V)) (x y : World V) → Alike (Deliver number ∷ es) x y → (o : Option (Packet V)) → slice_get x.packets number ≡ o → event_result size x (Deliver number) ≡ delivered x o → (z : World V) → delivered x o ≡ Ok z → Reaches es (delivered y o) z
  reaches_delivered number es x y h None is made z there = cc
  reaches_delivered number es x y h (Some p) is made z there =
      reaches_at (Deliver number) es x y h p.to (ap (λ (o : Option (Packet V)). option_map (λ p. p.to) o) is) (λ n. Ok (on_packet n p)) made z there

  reaches_event : (e : Event V) (es : List (Event V)) (x y : World V) → Alike (e ∷ es) x y → event_result size x e ≡ event_result_without_limit size x e → (z : World V) → event_result_without_limit size x e ≡ Ok z → Reaches es (event_result_without_limit size y e) z
  reaches_event (Offer k v) es x y h made z there = reaches_at (Offer k v) es x y h k refl (λ n. offer_result size n v) made z there
  reaches_event (Begin k) es x y h made z there = reaches_at (Begin k) es x y h k refl begin_result made z there
  reaches_event (Deliver number) es x y h made z there =
      subst (λ (o : Option (Packet V)). Reaches es (delivered y o) z) (sym (ap (λ (ps : List (Packet V)). slice_get ps number) h.packets))
      (reaches_delivered number es x y h (slice_get x.packets number) refl made z there)
  reaches_event (Restart k) es x y h made z there = reaches_at (Restart k) es x y h k refl (λ n. Ok (restarted n)) made z there

  reaches_one : (e : Event V) (es : List (Event V)) (x y : World V) → Alike (e ∷ es) x y → (z : World V) → event_result size x e ≡ Ok z → Reaches es (event_result size y e) z
  reaches_one e es x y h z made = by_limit (x.event_count == x.event_limit) refl where
    by_limit : (t : Bool) → (x.event_count == x.event_limit) ≡ t → Reaches es (event_result size y e) z
    by_limit true spent =
        let refused : event_result size x e ≡ Err EventsSpent = event_result-spent size x e (grind (arith, nat_tests)) in
        let no : Err EventsSpent ≡ Ok z = sym refused ∙ made in cc
    by_limit false unspent =
        let free : event_result size x e ≡ event_result_without_limit size x e = not_spent (event_result_without_limit size x e) (x.event_count == x.event_limit) unspent in
        let test : (y.event_count == y.event_limit) ≡ false = ap (λ (c : ℕ). c == y.event_limit) h.counted ∙ ap (λ (l : ℕ). x.event_count == l) h.limit ∙ unspent in
        let also : event_result size y e ≡ event_result_without_limit size y e = not_spent (event_result_without_limit size y e) (y.event_count == y.event_limit) test in
        let next : Reaches es (event_result_without_limit size y e) z = reaches_event e es x y h free z (sym free ∙ made) in
        (next.0, also ∙ next.1, next.2)

  none_after : (es : List (Event V)) (fault : StepFault) (z : World V) → events_result size es (Err fault) ≡ Ok z → ⊥
  none_after [] fault z is = cc
  none_after (e ∷ es) fault z is = cc

  reaches_rest : (e : Event V) (es : List (Event V)) (x y : World V) → Alike (e ∷ es) x y → (z : World V) → events_result size (e ∷ es) (Ok x) ≡ Ok z
      → ((u v : World V) → Alike es u v → events_result size es (Ok u) ≡ Ok z → Reaches [] (events_result size es (Ok v)) z) → (r : Result (World V) StepFault) → event_result size x e ≡ r → Reaches [] (events_result size (e ∷ es) (Ok y)) z
  reaches_rest e es x y h z is more (Err fault) made = absurd (none_after es fault z (ap (λ (r : Result (World V) StepFault). events_result size es r) (sym made) ∙ is))
  reaches_rest e es x y h z is more (Ok u) made =
      let one : Reaches es (event_result size y e) u = reaches_one e es x y h u made in
      let rest : Reaches [] (events_result size es (Ok one.0)) z = more u one.0 one.2 (ap (λ (r : Result (World V) StepFault). events_result size es r) (sym made) ∙ is) in
      (rest.0, ap (λ (r : Result (World V) StepFault). events_result size es r) one.1 ∙ rest.1, rest.2)

  -- events that lead x to z lead y to a world that is alike
  pub reaches_all : (es : List (Event V)) (x y : World V) → Alike es x y → (z : World V) → events_result size es (Ok x) ≡ Ok z → Reaches [] (events_result size es (Ok y)) z
  reaches_all [] x y h z is = let same : x ≡ z = cc in (y, refl, subst (λ (u : World V). Alike [] u y) same h)
  reaches_all (e ∷ es) x y h z is = reaches_rest e es x y h z is (λ u v g there. reaches_all es u v g z there) (event_result size x e) refl

  others_rest : (j : ℕ) (e : Event V) (es : List (Event V)) (x y : World V) → Alike (e ∷ es) x y → (z : World V) → events_result size (e ∷ es) (Ok x) ≡ Ok z → AreOfOthers size j (event_result size x e) es
      → ((u v : World V) → Alike es u v → events_result size es (Ok u) ≡ Ok z → AreOfOthers size j (Ok u) es → AreOfOthers size j (Ok v) es) → (r : Result (World V) StepFault) → event_result size x e ≡ r → AreOfOthers size j (event_result size y e) es
  others_rest j e es x y h z is idle more (Err fault) made = absurd (none_after es fault z (ap (λ (r : Result (World V) StepFault). events_result size es r) (sym made) ∙ is))
  others_rest j e es x y h z is idle more (Ok u) made =
      let one : Reaches es (event_result size y e) u = reaches_one e es x y h u made in
      subst (λ (r : Result (World V) StepFault). AreOfOthers size j r es) (sym one.1)
      (more u one.0 one.2 (ap (λ (r : Result (World V) StepFault). events_result size es r) (sym made) ∙ is) (subst (λ (r : Result (World V) StepFault). AreOfOthers size j r es) made idle))

  -- of events that lead x on, none is of node j in y if none is in x
  pub others_alike : (j : ℕ) (es : List (Event V)) (x y : World V) → Alike es x y → (z : World V) → events_result size es (Ok x) ≡ Ok z → AreOfOthers size j (Ok x) es → AreOfOthers size j (Ok y) es
  others_alike j [] x y h z is idle = tt
  others_alike j (e ∷ es) x y h z is idle = (
    (λ there. idle.0 (ap (λ (ps : List (Packet V)). node_of_event ps e) (sym h.packets) ∙ there)),
    others_rest j e es x y h z is idle.1 (λ u v g leads others. others_alike j es u v g z leads others) (event_result size x e) refl,
  )

-- The nodes before any event.

-- the node at a place has the kept part at that place
pub nodes_with-read : {V : Type 0} (ws : List ℕ) (k : ℕ) (parts : List (KeptPart V)) (j : ℕ) → slice_get (nodes_with ws k parts) j ≡ option_map (λ kept. restarted_node (k + j) ws kept) (slice_get parts j)
nodes_with-read ws k [] j = refl
nodes_with-read {V} ws k (p ∷ parts) zero = let e : k ≡ k + 0 = omega arith in ap (λ (i : ℕ). let o : Option (Node V) = Some (restarted_node i ws p) in o) e
nodes_with-read {V} ws k (p ∷ parts) (suc j) =
    let e : suc k + j ≡ k + suc j = omega arith in
    nodes_with-read ws (suc k) parts j ∙ ap (λ (i : ℕ). option_map (λ (kept : KeptPart V). restarted_node i ws kept) (slice_get parts j)) e

pub kept_parts-read : {V : Type 0} (ws : List ℕ) (k : ℕ) (parts : List (KeptPart V)) (j : ℕ) → option_map kept_of (slice_get (nodes_with ws k parts) j) ≡ slice_get parts j
kept_parts-read ws k [] j = refl
kept_parts-read ws k (p ∷ parts) zero = refl
kept_parts-read ws k (p ∷ parts) (suc j) = kept_parts-read ws (suc k) parts j

-- a node that begins has learned nothing
pub log-nodes_with : {V : Type 0} (ws : List ℕ) (k : ℕ) (parts : List (KeptPart V)) (j : ℕ) → log_at (slice_get (nodes_with ws k parts) j) ≡ []
log-nodes_with ws k [] j = refl
log-nodes_with ws k (p ∷ parts) zero = refl
log-nodes_with ws k (p ∷ parts) (suc j) = log-nodes_with ws (suc k) parts j

-- of the first of some events too, none is of node k
others_front : {V : Type 0} (size : V → ℕ) (k : ℕ) (r : Result (World V) StepFault) (es ds : List (Event V)) → AreOfOthers size k r (es ++ ds) → AreOfOthers size k r es
others_front size k r [] ds h = tt
others_front size k (Ok w) (e ∷ es) ds h = (h.0, others_front size k (event_result size w e) es ds h.1)
others_front size k (Err fault) (e ∷ es) ds h = tt

-- if an event of another node follows, still nothing happens at node k
pub idle_push : {V : Type 0} (size : V → ℕ) (k : ℕ) (es : List (Event V)) (r : Result (World V) StepFault) (w : World V) (e : Event V) → events_result size es r ≡ Ok w → AreOfOthers size k r es → node_of w e ≢ Some k → AreOfOthers size k r (es ++ e ∷ [])
idle_push {V} size k [] (Ok x) w e is h other = let same : x ≡ w = cc in (subst (λ (u : World V). node_of u e ≢ Some k) (sym same) other, tt)
idle_push size k [] (Err fault) w e is h other = cc
idle_push size k (d ∷ es) (Ok x) w e is h other = (h.0, idle_push size k es (event_result size x d) w e is h.1 other)
idle_push size k (d ∷ es) (Err fault) w e is h other = tt

-- A history and the run before it.

module _ {V : Type 0} (size : V → ℕ) (history : History V) (before : RunBefore size history) where
  abbrev ws : List ℕ
  ws = history.weights

  abbrev parts : List (KeptPart V)
  parts = kept_parts before.world

  pub lost_before : List (Packet V)
  lost_before = lost size ws before.limit before.events before.world history.event_limit before.is_after

  abbrev Run : History V
  Run = one_run before lost_before

  module _ (early rest : List (Event V)) (begins : early ++ rest ≡ history.events) (w : World V) (is_after : events_result size early (Ok (first_world history)) ≡ Ok w) where
    abbrev Any : ℕ → Type 0
    Any j = Unit {0}

    at_first : (j : ℕ) → SameOrIdle size ws history.begins parts Any (IsIdle size history) (first_world history) (resumed ws history.event_limit parts) early j
    at_first j = elim (before.left j) [
      | inl same ↦ inl (
        tt,
        nodes_with-read ws 0 parts j
            ∙ ap (λ (o : Option (KeptPart V)). option_map (λ kept. restarted_node (0 + j) ws kept) o) (slice_get-map kept_of before.world.nodes j ∙ sym same)
            ∙ sym (nodes_with-read ws 0 history.begins j),
      )
      | inr idle ↦ inr (idle, others_front size j (Ok (first_world history)) early rest (subst (λ (es : List (Event V)). AreOfOthers size j (Ok (first_world history)) es) (sym begins) idle), refl, refl)
    ]

    reached : Reaches size ws history.begins parts Any (IsIdle size history) [] (events_result size early (Ok (resumed ws history.event_limit parts))) w
    reached = reaches_all size ws history.begins parts Any (IsIdle size history) early (first_world history) (resumed ws history.event_limit parts) record { packets = refl; counted = refl; limit = refl; each = at_first } w is_after

    across : IsOneRun size ws (before.limit + length parts + history.event_limit) before.events parts lost_before early reached.0
    unfolding lost_before
    across = run_across size ws before.limit before.events before.world history.event_limit before.is_after early reached.0 reached.1

    same_log : (k : ℕ) → log across.world k ≡ log w k
    same_log k = ap (λ (ns : List (Node V)). log_at (slice_get ns k)) across.nodes ∙ (elim (reached.2.each k) [
      | inl same ↦ ap (λ (o : Option (Node V)). log_at o) same.1
      | inr idle ↦ ap (λ (o : Option (Node V)). log_at o) idle.3 ∙ log-nodes_with ws 0 parts k ∙ sym (ap (λ (o : Option (Node V)). log_at o) idle.2 ∙ log-nodes_with ws 0 history.begins k)
    ])

    same_part : (k : ℕ) → (kept_part across.world k ≡ kept_part w k) ⊎ (IsIdle size history k × (kept_part across.world k ≡ kept_part before.world k))
    same_part k = elim (reached.2.each k) [
      | inl same ↦ inl (ap (λ (ns : List (Node V)). option_map kept_of (slice_get ns k)) across.nodes ∙ ap (λ (o : Option (Node V)). option_map kept_of o) same.1)
      | inr idle ↦ inr (
        idle.0,
        ap (λ (ns : List (Node V)). option_map kept_of (slice_get ns k)) across.nodes ∙ ap (λ (o : Option (Node V)). option_map kept_of o) idle.3
            ∙ kept_parts-read ws 0 parts k ∙ slice_get-map kept_of before.world.nodes k,
      )
    ]

    -- what a run of new nodes leaves that has the run before and these events
    pub left_by_run : IsLeftByRun size history before w
    left_by_run = record {
      limit = before.limit + length parts + history.event_limit;
      events = joined before lost_before early;
      world = across.world;
      is_after = across.is_after;
      parts = same_part;
    }

    abbrev shift : Event V → Event V
    shift = shifted (length lost_before)

    -- the events up to a moment are the first of the one run
    first_of_run : IsPrefixOf (joined before lost_before early) Run.events
    first_of_run = (
      map shift rest,
      append_assoc before.events (restarts_from 0 parts ++ map shift early) (map shift rest)
          ∙ ap (λ (es : List (Event V)). before.events ++ es) (append_assoc (restarts_from 0 parts) (map shift early) (map shift rest)
          ∙ ap (λ (es : List (Event V)). restarts_from 0 parts ++ es) (sym (map-append shift early rest) ∙ ap (λ (es : List (Event V)). map shift es) begins)),
    )

    pub has_logs : HasLogsAfter size Run (joined before lost_before early) w
    has_logs = record { world = across.world; begins = first_of_run; is_after = across.is_after; logs = same_log }

  -- each moment of either is one of the one run, as to the logs
  in_run : (w : World V) → IsMomentOfEither before w → (y : World V) × IsMoment size Run y × ((k : ℕ) → log y k ≡ log w k)
  in_run w (inl m) =
      let total : ℕ = before.limit + length parts + history.event_limit in
      let up : IsRaised size ws (new_parts ws) total m.early w = raised size ws (new_parts ws) before.limit total m.early w (omega arith) m.is_after in (
        up.world,
        record {
          early = m.early;
          begins = then_begins m.early before.events Run.events m.begins (restarts_from 0 parts ++ map (shifted (length lost_before)) history.events, refl);
          is_after = up.is_after;
        },
        λ k. ap (λ (ns : List (Node V)). log_at (slice_get ns k)) up.nodes,
      )
  in_run w (inr m) =
      let there = has_logs m.early m.begins.0 m.begins.1 w m.is_after in
      (there.world, record { early = joined before lost_before m.early; begins = there.begins; is_after = there.is_after }, there.logs)

  module _ (w : World V) (taken : world_of size history ≡ Ok w) where
    whole : HasLogsAfter size Run (joined before lost_before history.events) w
    whole = has_logs history.events [] (append-nil history.events) w taken

    run_agrees : Agreement size Run
    run_agrees = agreement_of_new size ws (before.limit + length parts + history.event_limit) (joined before lost_before history.events) whole.world whole.is_after

    pub goes_on : GoesOn size history before
    goes_on = record {
      lost = lost_before;
      agreement = run_agrees;
      moments = λ v m. has_logs m.early m.begins.0 m.begins.1 v m.is_after;
      logs_agree = λ v u m n j k.
          let a = in_run v m in
          let b = in_run u n in
          subst (λ (xs : List (Option V)). Agree xs (log u k)) (a.2 j)
          (subst (λ (ys : List (Option V)). Agree (log a.0 j) ys) (b.2 k) (run_agrees.logs_agree a.0 b.0 a.1 b.1 j k));
    }

pub runs_are_left : {V : Type 0} → RunsAreLeft V
runs_are_left size history w taken before = left_by_run size history before history.events [] (append-nil history.events) w taken

pub histories_go_on : {V : Type 0} → HistoriesGoOn V
histories_go_on size history w taken before = goes_on size history before w taken

-- what new nodes begin with is left by a run without events
pub new_parts_are_left : {V : Type 0} → NewPartsAreLeft V
new_parts_are_left {V} size history new = record {
  limit = 0;
  events = [];
  world = start history.weights 0;
  is_after = refl;
  left = λ k. inl (ap (λ (ps : List (KeptPart V)). slice_get ps k) new ∙ sym (kept_parts-read history.weights 0 (new_parts history.weights) k));
}
