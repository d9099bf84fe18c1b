-- Events of different nodes do not stand in one another's way, so those that a crash caught after
-- their changes were stored can be taken in turn.
use Rattle.net.proofs.Words.{◌≡◌, ◌≢◌, ℕ, ◌+◌, ◌≤◌, Bool, true, false, ◌==◌, List, [], ◌∷◌, Option, Some, None, Result, Ok, Err, if◌then◌else◌, refl, ap, sym, ◌∙◌, subst, arith, length, slice_get, option_map, nat_tests, AllByRecursion, KeptPart, Node, Packet, Refusal, StepResult, kept_of, changed_by, offer_result, begin_result, on_packet, restarted, Event, Offer, Begin, Deliver, Restart, StepFault, World, first_world, resumed, after_step_or_fault, at_node, delivered, event_result_without_limit, event_result, events_result, change_at, change_delivered, change_of, kept_part, node_of}
use Rattle.std.specs.Prelude.{IsOk}
use Rattle.net.specs.Crash.{AreOfOtherNodes, AreUnderWay, is_node, found_part, CrashesLeaveEvents}
use Rattle.net.proofs.GrowingLists.{at_front, at_set_other}
use Rattle.net.proofs.EveryEvent.{IfTaken, if_taken}
use Rattle.net.proofs.TwoMoments.{events_result-append, Lasts, lasts_from, lasts_happens, lasts_itself}
use Rattle.net.proofs.KeptPartLemmas.{Happens, happens_moves}
use Rattle.net.proofs.HistoryLemmas.{counts_happens_at, event_result-not_spent}
use Rattle.net.proofs.CrashLemmas.{IsRaised, raised}

-- from w to x the nodes that P holds of stay, and so do the packets
pub record Leaves {V : Type 0} (P : ℕ → Type 0) (w x : World V) : Type 0 where
  pub nodes : (j : ℕ) → P j → slice_get x.nodes j ≡ slice_get w.nodes j
  pub packets : (n : ℕ) (p : Packet V) → slice_get w.packets n ≡ Some p → slice_get x.packets n ≡ Some p

-- the event is taken in x as in w, at the same node, with the same change
pub record Stays {V : Type 0} (size : V → ℕ) (w x : World V) (d : Event V) : Type 0 where
  pub taken : IsOk (event_result_without_limit size x d)
  pub node : node_of x d ≡ node_of w d
  pub change : change_of size x d ≡ change_of size w d

module _ {V : Type 0} (size : V → ℕ) (P : ℕ → Type 0) (w x : World V) (h : Leaves P w x) where
  step_taken : (j : ℕ) (r : Result (StepResult V) Refusal) → IsOk (after_step_or_fault w j r) → IsOk (after_step_or_fault x j r)
  step_taken j (Ok step) ok = refl
  step_taken j (Err refusal) ok = cc

  node_taken : (j : ℕ) (make : Node V → Result (StepResult V) Refusal) (o : Option (Node V)) → IsOk (at_node w j make o) → IsOk (at_node x j make o)
  node_taken j make None ok = cc
  node_taken j make (Some n) ok = step_taken j (make n) ok

  taken_at : (j : ℕ) (make : Node V → Result (StepResult V) Refusal) → P j → IsOk (at_node w j make (slice_get w.nodes j)) → IsOk (at_node x j make (slice_get x.nodes j))
  taken_at j make among ok = subst (λ (o : Option (Node V)). IsOk (at_node x j make o)) (sym (h.nodes j among)) (node_taken j make (slice_get w.nodes j) ok)

  change_stays : (j : ℕ) (make : Node V → Result (StepResult V) Refusal) → P j → change_at make (slice_get x.nodes j) ≡ change_at make (slice_get w.nodes j)
  change_stays j make among = ap (λ (o : Option (Node V)). change_at make o) (h.nodes j among)

  -- of a delivery: its packet is there
  stays_delivered : (number : ℕ) (o : Option (Packet V)) → slice_get w.packets number ≡ o → IsOk (delivered w o) → ((j : ℕ) → option_map (λ p. p.to) o ≡ Some j → P j) → Stays size w x (Deliver number)
  stays_delivered number None is ok among = cc
  stays_delivered number (Some p) is ok among =
      let there : slice_get x.packets number ≡ Some p = h.packets number p is in
      let here : P p.to = among p.to refl in
      record {
        taken = subst (λ (o : Option (Packet V)). IsOk (delivered x o)) (sym there) (taken_at p.to (λ n. Ok (on_packet n p)) here ok);
        node = ap (λ (o : Option (Packet V)). option_map (λ p. p.to) o) (there ∙ sym is);
        change = ap (λ (o : Option (Packet V)). change_delivered x o) there ∙ change_stays p.to (λ n. Ok (on_packet n p)) here ∙ ap (λ (o : Option (Packet V)). change_delivered w o) (sym is);
      }

  pub stays : (d : Event V) → IsOk (event_result_without_limit size w d) → ((j : ℕ) → node_of w d ≡ Some j → P j) → Stays size w x d
  stays (Offer j v) ok among = record { taken = taken_at j (λ n. offer_result size n v) (among j refl) ok; node = refl; change = change_stays j (λ n. offer_result size n v) (among j refl) }
  stays (Begin j) ok among = record { taken = taken_at j begin_result (among j refl) ok; node = refl; change = change_stays j begin_result (among j refl) }
  stays (Deliver number) ok among =
      stays_delivered number (slice_get w.packets number) refl ok among
  stays (Restart j) ok among = record { taken = taken_at j (λ n. Ok (restarted n)) (among j refl) ok; node = refl; change = change_stays j (λ n. Ok (restarted n)) (among j refl) }

-- An event leaves the nodes that are not its own.

module _ {V : Type 0} (size : V → ℕ) (w : World V) where
  leaves_step : (k : ℕ) (r : Result (StepResult V) Refusal) → IfTaken (after_step_or_fault w k r) (Leaves (λ j. k ≢ j) w)
  leaves_step k (Ok step) = record { nodes = λ j other. at_set_other w.nodes k j step.node other; packets = λ n p is. at_front w.packets step.posts n p is }
  leaves_step k (Err refusal) = tt

  leaves_at : (k : ℕ) (make : Node V → Result (StepResult V) Refusal) (o : Option (Node V)) → IfTaken (at_node w k make o) (Leaves (λ j. k ≢ j) w)
  leaves_at k make None = tt
  leaves_at k make (Some n) = leaves_step k (make n)

  -- the nodes other than that of the event stay
  abbrev IsOther : Event V → ℕ → Type 0
  IsOther e j = node_of w e ≢ Some j

  weaker : (e : Event V) (k : ℕ) → node_of w e ≡ Some k → (r : Result (World V) StepFault) → IfTaken r (Leaves (λ j. k ≢ j) w) → IfTaken r (Leaves (IsOther e) w)
  weaker e k is (Ok x) h = record {
    nodes = λ j other. h.nodes j (λ same. other (is ∙ ap (λ (i : ℕ). let o : Option ℕ = Some i in o) same));
    packets = h.packets;
  }
  weaker e k is (Err fault) h = tt

  leaves_delivered : (number : ℕ) (o : Option (Packet V)) → slice_get w.packets number ≡ o → IfTaken (delivered w o) (Leaves (IsOther (Deliver number)) w)
  leaves_delivered number None is = tt
  leaves_delivered number (Some p) is =
      weaker (Deliver number) p.to (ap (λ (o : Option (Packet V)). option_map (λ p. p.to) o) is) (delivered w (Some p)) (leaves_at p.to (λ n. Ok (on_packet n p)) (slice_get w.nodes p.to))

  pub event_leaves : (e : Event V) → IfTaken (event_result_without_limit size w e) (Leaves (IsOther e) w)
  event_leaves (Offer k v) = weaker (Offer k v) k refl (event_result_without_limit size w (Offer k v)) (leaves_at k (λ n. offer_result size n v) (slice_get w.nodes k))
  event_leaves (Begin k) = weaker (Begin k) k refl (event_result_without_limit size w (Begin k)) (leaves_at k begin_result (slice_get w.nodes k))
  event_leaves (Deliver number) = leaves_delivered number (slice_get w.packets number) refl
  event_leaves (Restart k) = weaker (Restart k) k refl (event_result_without_limit size w (Restart k)) (leaves_at k (λ n. Ok (restarted n)) (slice_get w.nodes k))

-- What is under way stays so, and leaves what was found.

pub record StayUnderWay {V : Type 0} (size : V → ℕ) (w x : World V) (es : List (Event V)) : Type 0 where
  pub under_way : AreUnderWay size x es
  pub found : (k : ℕ) → kept_part x k ≡ kept_part w k → found_part size x es k ≡ found_part size w es k
  pub nodes : AllByRecursion (λ d. node_of x d ≡ node_of w d) es

module _ {V : Type 0} (size : V → ℕ) (P : ℕ → Type 0) (w x : World V) (h : Leaves P w x) where
  abbrev IsAmong : Event V → Type 0
  IsAmong d = (j : ℕ) → node_of w d ≡ Some j → P j

  others_stay : (e : Event V) → node_of x e ≡ node_of w e → (ds : List (Event V)) → AreUnderWay size w ds → AllByRecursion IsAmong ds → AreOfOtherNodes w e ds → AreOfOtherNodes x e ds
  others_stay e same [] under among other = tt
  others_stay e same (d ∷ ds) under among other =
      let s : Stays size w x d = stays size P w x h d under.0 among.0 in
      ((λ alike. other.0 (sym s.node ∙ alike ∙ same)), others_stay e same ds under.2 among.1 other.1)

  found_stays : (e : Event V) → Stays size w x e → (k : ℕ) → kept_part x k ≡ kept_part w k → (f g : Option (KeptPart V)) → f ≡ g
      → (if is_node (node_of x e) k then option_map (λ kept. changed_by kept (change_of size x e)) (kept_part x k) else f)
      ≡ (if is_node (node_of w e) k then option_map (λ kept. changed_by kept (change_of size w e)) (kept_part w k) else g)
  found_stays e s k same f g rest = rw (s.node, s.change, same, rest) refl

  pub stay_under_way : (es : List (Event V)) → AreUnderWay size w es → AllByRecursion IsAmong es → StayUnderWay size w x es
  stay_under_way [] under among = record { under_way = tt; found = λ k same. same; nodes = tt }
  stay_under_way (e ∷ es) under among =
      let s : Stays size w x e = stays size P w x h e under.0 among.0 in
      let rest : StayUnderWay size w x es = stay_under_way es under.2 among.1 in
      record {
        under_way = (s.taken, others_stay e s.node es under.2 among.1 under.1, rest.under_way);
        found = λ k same. found_stays e s k same (found_part size x es k) (found_part size w es k) (rest.found k same);
        nodes = (s.node, rest.nodes);
      }

-- Which node an event is of.

module _ {A : Type 0} (k : ℕ) (own other r : Option A) where
  -- what is so of the own node, and what else, is so by the test
  by_node : (o : Option ℕ) → (o ≡ Some k → r ≡ own) → (o ≢ Some k → r ≡ other) → r ≡ (if is_node o k then own else other)
  by_node None is_own is_other = is_other (λ e. cc)
  by_node (Some j) is_own is_other = by_test (j == k) refl where
    by_test : (t : Bool) → (j == k) ≡ t → r ≡ (if t then own else other)
    by_test true same = let e : j ≡ k = grind (arith, nat_tests) in is_own (ap (λ i. Some i) e)
    by_test false differs = is_other (λ e. let d : j ≡ k = cc in let l : ⊥ = grind (arith, nat_tests) in l)

-- events of other nodes leave nothing to be found at node k
found_none : {V : Type 0} (size : V → ℕ) (w : World V) (k : ℕ) (es : List (Event V)) → AllByRecursion (λ e. node_of w e ≢ Some k) es → kept_part w k ≡ found_part size w es k
found_none size w k [] other = refl
found_none size w k (e ∷ es) other = by_node k (option_map (λ kept. changed_by kept (change_of size w e)) (kept_part w k)) (found_part size w es k) (kept_part w k) (node_of w e) (λ is. absurd (other.0 is)) (λ no. found_none size w k es other.1)

none_of_node : {V : Type 0} (w x : World V) (e : Event V) (k : ℕ) (es : List (Event V)) → node_of w e ≡ Some k → AreOfOtherNodes w e es → AllByRecursion (λ d. node_of x d ≡ node_of w d) es → AllByRecursion (λ d. node_of x d ≢ Some k) es
none_of_node w x e k [] is other same = tt
none_of_node w x e k (d ∷ ds) is other same = ((λ there. other.0 (sym same.0 ∙ there ∙ sym is)), none_of_node w x e k ds is other.1 same.1)

all_among : {V : Type 0} (size : V → ℕ) (w x : World V) (e : Event V) (es : List (Event V)) → AreOfOtherNodes w e es → AllByRecursion (λ d. (j : ℕ) → node_of w d ≡ Some j → node_of w e ≢ Some j) es
all_among size w x e [] other = tt
all_among size w x e (d ∷ ds) other = ((λ j is own. other.0 (is ∙ sym own)), all_among size w x e ds other.1)

-- All of them.

pub record TakesAll {V : Type 0} (size : V → ℕ) (w : World V) (es : List (Event V)) : Type 0 where
  pub world : World V
  pub is : events_result size es (Ok w) ≡ Ok world
  pub parts : (k : ℕ) → kept_part world k ≡ found_part size w es k

takes_next : {V : Type 0} (size : V → ℕ) (w : World V) (e : Event V) (es : List (Event V)) → w.event_count + length (e ∷ es) ≤ w.event_limit → AreUnderWay size w (e ∷ es)
    → ((x : World V) → x.event_count + length es ≤ x.event_limit → AreUnderWay size x es → TakesAll size x es)
    → (r : Result (World V) StepFault) → event_result_without_limit size w e ≡ r → TakesAll size w (e ∷ es)
takes_next {V} size w e es room under more (Err fault) made = let ok : IsOk (event_result_without_limit size w e) = under.0 in cc
takes_next {V} size w e es room under more (Ok x) made =
    let leaves : Leaves (λ j. node_of w e ≢ Some j) w x = if_taken (Leaves (λ j. node_of w e ≢ Some j) w) (event_result_without_limit size w e) x made (event_leaves size w e) in
    let stay : StayUnderWay size w x es = stay_under_way size (λ j. node_of w e ≢ Some j) w x leaves es under.2 (all_among size w x e es under.1) in
    let lasts : Lasts w x = if_taken (Lasts w) (event_result_without_limit size w e) x made (lasts_happens w w (lasts_itself w) size e) in
    let counted : x.event_count ≡ w.event_count + 1 = if_taken (λ (y : World V). y.event_count ≡ w.event_count + 1) (event_result_without_limit size w e) x made (counts_happens_at w.event_count w refl size e) in
    let taken : event_result size w e ≡ Ok x = event_result-not_spent size w e (omega arith) ∙ made in
    let rest : TakesAll size x es = more x (omega (arith, lasts.limit, counted)) stay.under_way in
    record {
      world = rest.world;
      is = ap (λ (r : Result (World V) StepFault). events_result size es r) taken ∙ rest.is;
      parts = λ k.
          let moved : Happens size w k e x = if_taken (Happens size w k e) (event_result_without_limit size w e) x made (happens_moves size w k e) in
          rest.parts k ∙ by_node k (option_map (λ kept. changed_by kept (change_of size w e)) (kept_part w k)) (found_part size w es k) (found_part size x es k) (node_of w e)
          (λ own. sym (found_none size x k es (none_of_node w x e k es own under.1 stay.nodes)) ∙ moved.own own)
          (λ other. stay.found k (moved.other other));
    }

takes_all : {V : Type 0} (size : V → ℕ) (es : List (Event V)) (w : World V) → w.event_count + length es ≤ w.event_limit → AreUnderWay size w es → TakesAll size w es
takes_all size [] w room under = record { world = w; is = refl; parts = λ k. refl }
takes_all size (e ∷ es) w room under = takes_next size w e es room under (λ x less stay. takes_all size es x less stay) (event_result_without_limit size w e) refl

each_event : {V : Type 0} (w : World V) (es : List (Event V)) → AllByRecursion (λ d. (j : ℕ) → node_of w d ≡ Some j → Unit {0}) es
each_event w [] = tt
each_event w (e ∷ es) = ((λ j is. tt), each_event w es)

pub crashes_leave_events : {V : Type 0} → CrashesLeaveEvents V
crashes_leave_events {V} size history es w is_after under =
    let total : ℕ = history.event_limit + length es in
    let up : IsRaised size history.weights history.begins total history.events w = raised size history.weights history.begins history.event_limit total history.events w (omega arith) is_after in
    let leaves : Leaves (λ j. Unit {0}) w up.world = record {
      nodes = λ j t. ap (λ (ns : List (Node V)). slice_get ns j) up.nodes;
      packets = λ n p is. ap (λ (ps : List (Packet V)). slice_get ps n) up.packets ∙ is;
    } in
    let stay : StayUnderWay size w up.world es = stay_under_way size (λ j. Unit {0}) w up.world leaves es under (each_event w es) in
    let w_limit : w.event_limit ≡ history.event_limit = (lasts_from size (first_world history) w history.events is_after).limit in
    let all : TakesAll size up.world es = takes_all size es up.world (omega (arith, up.count, up.few, up.total_is, w_limit)) stay.under_way in
    record {
      world = all.world;
      is_after = events_result-append size history.events es (Ok (resumed history.weights total history.begins)) ∙ ap (λ (r : Result (World V) StepFault). events_result size es r) up.is_after ∙ all.is;
      parts = λ k. all.parts k ∙ stay.found k (ap (λ (ns : List (Node V)). option_map kept_of (slice_get ns k)) up.nodes);
    }
