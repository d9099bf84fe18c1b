-- The law of the kept part: each step makes its one change to the kept part of its own node only,
-- and a restart makes none.
use Rattle.net.proofs.Words.{◌≡◌, ◌≢◌, ℕ, ◌==◌, List, [], ◌∷◌, ◌++◌, Option, Some, None, Result, Ok, Err, refl, ap, sym, ◌∙◌, subst, slice_get, option_map, Packet, Change, Refusal, KeptPart, changed_by, Node, StepResult, kept_of, offer_result, begin_result, on_packet, restarted, ChangesKeptOnOk, offered_kept, begun_kept, body_kept, restarted_kept, Event, Offer, Begin, Deliver, Restart, StepFault, World, after_step, after_step_or_fault, at_node, delivered, event_result_without_limit, event_result, events_result, kept_part, node_of, change_of_result, change_at, change_delivered, change_of, AreOfOthers, KeptPartSurvives}
use Rattle.net.proofs.EveryEvent.{IfTaken, if_taken, spent_or}
use Rattle.net.proofs.TwoMoments.{events_result-append, later_events}
use Rattle.net.proofs.GrowingLists.{at_set, at_set_other}

abbrev changed_part : {V : Type 0} → Option (Change V) → Option (KeptPart V) → Option (KeptPart V)
changed_part change kept = option_map (λ kept. changed_by kept change) kept

-- from world w to world x the kept part of node k gets the change if k is j, else it stays
pub record Moves {V : Type 0} (w : World V) (j k : ℕ) (change : Option (Change V)) (x : World V) : Type 0 where
  pub own : j ≡ k → kept_part x k ≡ changed_part change (kept_part w k)
  pub other : j ≢ k → kept_part x k ≡ kept_part w k

module _ {V : Type 0} (w : World V) (j k : ℕ) where
  -- if a step makes its change to the kept part of its node, it does so in the world
  own_part : (n : Node V) (step : StepResult V) → slice_get w.nodes j ≡ Some n → kept_of step.node ≡ changed_by (kept_of n) step.change → kept_part (after_step w j step) j ≡ changed_part step.change (kept_part w j)
  own_part n step is_node changes =
      ap (λ (o : Option (Node V)). option_map kept_of o) (at_set w.nodes j step.node n is_node)
      ∙ ap (λ (kept : KeptPart V). let o : Option (KeptPart V) = Some kept in o) changes
      ∙ ap (λ (o : Option (Node V)). changed_part step.change (option_map kept_of o)) (sym is_node)

  -- the answer of a node makes its change to the kept part of that node and of no other
  moves_answered : (n : Node V) → slice_get w.nodes j ≡ Some n → (r : Result (StepResult V) Refusal) → ChangesKeptOnOk n r → IfTaken (after_step_or_fault w j r) (Moves w j k (change_of_result r))
  moves_answered n is_node (Ok step) changes = record {
    own = λ e. subst (λ (k : ℕ). kept_part (after_step w j step) k ≡ changed_part step.change (kept_part w k)) e (own_part n step is_node changes);
    other = λ other. ap (λ (o : Option (Node V)). option_map kept_of o) (at_set_other w.nodes j k step.node other);
  }
  moves_answered n is_node (Err refusal) changes = tt

  -- the answer of node j, if it exists, makes its change to the kept part of j and of no other
  moves_at : (make : Node V → Result (StepResult V) Refusal) → ((n : Node V) → ChangesKeptOnOk n (make n)) → (o : Option (Node V)) → slice_get w.nodes j ≡ o → IfTaken (at_node w j make o) (Moves w j k (change_at make o))
  moves_at make changes None e = tt
  moves_at make changes (Some n) e = moves_answered n e (make n) (changes n)

-- from w to x the kept part of node k gets the change of the event if it is an event of k, else it
-- stays
pub record Happens {V : Type 0} (size : V → ℕ) (w : World V) (k : ℕ) (e : Event V) (x : World V) : Type 0 where
  pub own : node_of w e ≡ Some k → kept_part x k ≡ changed_part (change_of size w e) (kept_part w k)
  pub other : node_of w e ≢ Some k → kept_part x k ≡ kept_part w k

module _ {V : Type 0} (size : V → ℕ) (w : World V) (k : ℕ) where
  -- if the step is one of node j, and j is the node of the event, the kept part of node k changes
  -- by the event
  as_happens : (e : Event V) (j : ℕ) → node_of w e ≡ Some j → (r : Result (World V) StepFault) → IfTaken r (Moves w j k (change_of size w e)) → IfTaken r (Happens size w k e)
  as_happens e j is_of (Ok x) h = record {
    own = λ d. h.own (let same : j ≡ k = cc in same);
    other = λ d. h.other (λ same. d (is_of ∙ ap (λ (i : ℕ). let o : Option ℕ = Some i in o) same));
  }
  as_happens e j is_of (Err fault) h = tt

  -- a delivery makes its change to the kept part of the node to which the packet is addressed, and
  -- of no other
  happens_delivered : (number : ℕ) (o : Option (Packet V)) → slice_get w.packets number ≡ o → IfTaken (delivered w o) (Happens size w k (Deliver number))
  happens_delivered number None e = tt
  happens_delivered number (Some p) e =
      as_happens (Deliver number) p.to (ap (λ (o : Option (Packet V)). option_map (λ p. p.to) o) e) (delivered w (Some p))
      (subst (λ (o : Option (Packet V)). IfTaken (delivered w (Some p)) (Moves w p.to k (change_delivered w o))) (sym e)
      (moves_at w p.to k (λ n. Ok (on_packet n p)) (λ n. body_kept n p.from p.body) (slice_get w.nodes p.to) refl))

  -- each event makes its change to the kept part of its node and of no other
  pub happens_moves : (e : Event V) → IfTaken (event_result_without_limit size w e) (Happens size w k e)
  happens_moves (Offer j v) = as_happens (Offer j v) j refl (event_result_without_limit size w (Offer j v)) (moves_at w j k (λ n. offer_result size n v) (λ n. offered_kept n size v) (slice_get w.nodes j) refl)
  happens_moves (Begin j) = as_happens (Begin j) j refl (event_result_without_limit size w (Begin j)) (moves_at w j k begin_result (λ n. begun_kept n) (slice_get w.nodes j) refl)
  happens_moves (Deliver number) = happens_delivered number (slice_get w.packets number) refl
  happens_moves (Restart j) = as_happens (Restart j) j refl (event_result_without_limit size w (Restart j)) (moves_at w j k (λ n. Ok (restarted n)) (λ n. restarted_kept n) (slice_get w.nodes j) refl)

  -- each event makes its change to the kept part of its node and of no other, with the limit of
  -- events tested first
  pub event_moves : (e : Event V) → IfTaken (event_result size w e) (Happens size w k e)
  event_moves e = spent_or (Happens size w k e) (event_result_without_limit size w e) (w.event_count == w.event_limit) (happens_moves e)

-- Events of other nodes, and then the restart.

abbrev KeptIs : {V : Type 0} → ℕ → Option (KeptPart V) → World V → Type 0
KeptIs k kept w = kept_part w k ≡ kept

module _ {V : Type 0} (size : V → ℕ) (k : ℕ) (kept : Option (KeptPart V)) where
  -- an event of another node leaves the kept part of node k
  other_keeps : (w : World V) (e : Event V) → KeptIs k kept w → node_of w e ≢ Some k → (r : Result (World V) StepFault) → IfTaken r (Happens size w k e) → IfTaken r (KeptIs k kept)
  other_keeps w e is other (Ok x) h = h.other other ∙ is
  other_keeps w e is other (Err fault) h = tt

  -- events of other nodes leave the kept part of node k
  others_keep : (es : List (Event V)) (r : Result (World V) StepFault) → AreOfOthers size k r es → IfTaken r (KeptIs k kept) → IfTaken (events_result size es r) (KeptIs k kept)
  others_keep [] r others h = h
  others_keep (e ∷ es) (Err fault) others h = tt
  others_keep (e ∷ es) (Ok w) others h = others_keep es (event_result size w e) others.1 (other_keeps w e h others.0 (event_result size w e) (event_moves size w k e))

  -- a restart makes no change to the kept part
  no_change : (o : Option (Node V)) → changed_part (change_at (λ n. Ok (restarted n)) o) (option_map kept_of o) ≡ option_map kept_of o
  no_change None = refl
  no_change (Some n) = refl

  -- a restart of node k leaves its kept part
  restart_keeps : (w : World V) → KeptIs k kept w → (r : Result (World V) StepFault) → IfTaken r (Happens size w k (Restart k)) → IfTaken r (KeptIs k kept)
  restart_keeps w is (Ok x) h = h.own refl ∙ no_change (slice_get w.nodes k) ∙ is
  restart_keeps w is (Err fault) h = tt

  -- if events leave the kept part of node k, so do they with a restart of node k after them
  then_restart : (r : Result (World V) StepFault) → IfTaken r (KeptIs k kept) → IfTaken (events_result size (Restart k ∷ []) r) (KeptIs k kept)
  then_restart (Err fault) h = tt
  then_restart (Ok w) h = restart_keeps w h (event_result size w (Restart k)) (event_moves size w k (Restart k))

-- after an event of a node, events of others and its restart, its kept part is the one before with
-- the event's change
pub kept_part_survives : {V : Type 0} → KeptPartSurvives V
kept_part_survives {V} size ws limit events others e k w x y before made is_of of_others after_all =
    let kept : Option (KeptPart V) = changed_part (change_of size w e) (kept_part w k) in
    let moved : KeptIs k kept x = (if_taken (Happens size w k e) (event_result size w e) x made (event_moves size w k e)).own is_of in
    let rest : List (Event V) = others ++ Restart k ∷ [] in
    let from_e = later_events size ws limit events (e ∷ rest) w (Ok y) before after_all in
    let from_x : events_result size rest (Ok x) ≡ Ok y = ap (λ (r : Result (World V) StepFault). events_result size rest r) (sym made) ∙ from_e in
    let last : events_result size (Restart k ∷ []) (events_result size others (Ok x)) ≡ Ok y = sym (events_result-append size others (Restart k ∷ []) (Ok x)) ∙ from_x in
    if_taken (KeptIs k kept) (events_result size (Restart k ∷ []) (events_result size others (Ok x))) y last
    (then_restart size k kept (events_result size others (Ok x)) (others_keep size k kept others (Ok x) of_others moved))
