-- From one moment of a run to a later one the weights and the limit stay, and votes that were cast
-- remain cast; so a chosen value remains chosen.
use Rattle.net.proofs.Words.{◌≡◌, ℕ, List, [], ◌∷◌, ◌++◌, Option, Some, None, Result, Ok, Err, inr, refl, ap, sym, ◌∙◌, subst, length, slice_get, length-set, AllByRecursion, In, Change, Round, Entry, Packet, Refusal, Node, StepResult, offer_result, begin_result, on_packet, restarted, Event, Offer, Begin, Deliver, Restart, StepFault, Vote, IsChosen, World, start, votes_after, after_step_or_fault, at_node, delivered, event_result_without_limit, event_result, events_result, after, IsAfter}
use Rattle.synod.specs.declared.change.Change.TheVariants.{Promise}
use Rattle.net.proofs.LedgerGrows.{chosen_with_more}
use Rattle.net.proofs.EveryEvent.{IfTaken, if_taken, all_keep}

pub record Lasts {V : Type 0} (w x : World V) : Type 0 where
  pub weights : x.weights ≡ w.weights
  pub limit : x.event_limit ≡ w.event_limit
  pub count : length x.nodes ≡ length w.nodes
  pub votes : (v : Vote V) → In v w.votes_cast → In v x.votes_cast

-- the votes after a change of a node include those before
votes_stay : {V : Type 0} (k : ℕ) (change : Option (Change V)) (votes : List (Vote V)) (v : Vote V) → In v votes → In v (votes_after k change votes)
votes_stay k None votes v i = i
votes_stay k (Some (Round r)) votes v i = i
votes_stay k (Some (Promise b)) votes v i = i
votes_stay k (Some (Entry s h)) votes v i = inr i

module _ {V : Type 0} (first w : World V) (h : Lasts first w) where
  -- weights, limit, the count of nodes and votes are preserved by the answer of a node
  lasts_answered : (k : ℕ) (r : Result (StepResult V) Refusal) → IfTaken (after_step_or_fault w k r) (Lasts first)
  lasts_answered k (Ok step) = record { weights = h.weights; limit = h.limit; count = length-set w.nodes k step.node ∙ h.count; votes = λ v i. votes_stay k step.change w.votes_cast v (h.votes v i) }
  lasts_answered k (Err refusal) = tt

  -- weights, limit, the count of nodes and votes are preserved by the answer of a node, if it exists
  lasts_at : (k : ℕ) (make : Node V → Result (StepResult V) Refusal) (o : Option (Node V)) → IfTaken (at_node w k make o) (Lasts first)
  lasts_at k make None = tt
  lasts_at k make (Some n) = lasts_answered k (make n)

  -- weights, limit, the count of nodes and votes are preserved by a delivery
  lasts_delivered : (o : Option (Packet V)) → IfTaken (delivered w o) (Lasts first)
  lasts_delivered None = tt
  lasts_delivered (Some p) = lasts_at p.to (λ n. Ok (on_packet n p)) (slice_get w.nodes p.to)

  -- weights, limit, the count of nodes and votes are preserved by each event
  pub lasts_happens : (size : V → ℕ) (e : Event V) → IfTaken (event_result_without_limit size w e) (Lasts first)
  lasts_happens size (Offer k v) = lasts_at k (λ n. offer_result size n v) (slice_get w.nodes k)
  lasts_happens size (Begin k) = lasts_at k begin_result (slice_get w.nodes k)
  lasts_happens size (Deliver number) = lasts_delivered (slice_get w.packets number)
  lasts_happens size (Restart k) = lasts_at k (λ n. Ok (restarted n)) (slice_get w.nodes k)

pub lasts_itself : {V : Type 0} (w : World V) → Lasts w w
lasts_itself w = record { weights = refl; limit = refl; count = refl; votes = λ v i. i }

-- the trivial condition holds of each event
each_event : {V : Type 0} (es : List (Event V)) → AllByRecursion (λ e. Unit {0}) es
each_event [] = tt
each_event (e ∷ es) = (tt, each_event es)

pub events_result-append : {V : Type 0} (size : V → ℕ) (es ds : List (Event V)) (r : Result (World V) StepFault) → events_result size (es ++ ds) r ≡ events_result size ds (events_result size es r)
events_result-append size [] ds r = refl
events_result-append size (e ∷ es) [] (Err fault) = refl
events_result-append size (e ∷ es) (d ∷ ds) (Err fault) = refl
events_result-append size (e ∷ es) ds (Ok w) = events_result-append size es ds (event_result size w e)

-- the later events lead from the world of the earlier moment to the result of all
pub later_events : {V : Type 0} (size : V → ℕ) (ws : List ℕ) (limit : ℕ) (early late : List (Event V)) (w : World V) (r : Result (World V) StepFault) → IsAfter size ws limit early w → after size ws limit (early ++ late) ≡ r → events_result size late (Ok w) ≡ r
later_events size ws limit early late w r first then = ap (λ r. events_result size late r) (sym first) ∙ sym (events_result-append size early late (Ok (start ws limit))) ∙ then

-- weights, limit, the count of nodes and votes are preserved by any events
pub lasts_from : {V : Type 0} (size : V → ℕ) (first w : World V) (es : List (Event V)) → events_result size es (Ok first) ≡ Ok w → Lasts first w
lasts_from size first w es is_after = if_taken (Lasts first) (events_result size es (Ok first)) w is_after
    (all_keep size (Lasts first) (λ e. Unit {0}) (λ y e u h. lasts_happens first y h size e) es (each_event es) (Ok first) (lasts_itself first))

module _ {V : Type 0} (size : V → ℕ) (ws : List ℕ) (limit : ℕ) (early late : List (Event V)) (w x : World V) (first : IsAfter size ws limit early w) (then : IsAfter size ws limit (early ++ late) x) where
  -- weights, limit, the count of nodes and votes are preserved from the earlier moment to the later
  pub world_lasts : Lasts w x
  world_lasts = lasts_from size w x late (later_events size ws limit early late w (Ok x) first then)

  -- if a value is chosen at the earlier moment, it is chosen at the later
  pub stays_chosen : (s : ℕ) (v : Option V) → IsChosen w.weights w.votes_cast s v → IsChosen x.weights x.votes_cast s v
  stays_chosen s v chosen = subst (λ (ws : List ℕ). IsChosen ws x.votes_cast s v) (sym world_lasts.weights) (chosen_with_more w.votes_cast x.votes_cast world_lasts.votes chosen)
