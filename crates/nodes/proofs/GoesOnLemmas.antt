-- The switch after an event goes on from the switch before it.
use Rattle.std.proofs.Common.{◌≡◌, ℕ, ◌+◌, ◌==◌, nat_lt, Bool, true, false, List, [], ◌∷◌, ◌++◌, length, Option, Some, None, Result, Ok, Err, slice_get, slice_set, refl, ap, sym, ◌∙◌, subst, arith, append_assoc, if◌then◌else◌, inl, inr}
use Rattle.std.proofs.lemmas.Bool.Decides.{nat_tests}
use Rattle.std.specs.Option.{option_map}
use Rattle.std.specs.Prelude.{OnOk}
use Rattle.synod.specs.Node.{Node, StepResult}
use Rattle.synod.specs.Proposer.{begin_result, offer_result}
use Rattle.synod.specs.Record.{KeptPart}
use Rattle.synod.specs.Step.{on_packet, restarted}
use Rattle.synod.specs.declared.change.Change.{Change}
use Rattle.synod.specs.declared.packet.Packet.{Packet}
use Rattle.synod.specs.declared.refusal.Refusal.{Refusal}
use Rattle.net.specs.Agree.{IsPrefixOf}
use Rattle.net.specs.History.{History, first_world}
use Rattle.net.specs.KeptPart.{node_of, change_of, AreOfOthers}
use Rattle.net.specs.Resumed.{IsIdle}
use Rattle.net.specs.World.{World, resumed, at_node, delivered, event_result, event_result_without_limit, events_result}
use Rattle.net.specs.declared.event.Event.{Event}
use Rattle.net.specs.declared.event.Event.TheVariants.{Begin, Deliver, Offer, Restart}
use Rattle.net.specs.declared.fault.StepFault.{StepFault}
use Rattle.net.specs.declared.fault.StepFault.TheVariants.{Device, Down, EventsSpent}
use Rattle.net.proofs.BeginsAgainLemmas.{again, again_is, again_log}
use Rattle.switch.specs.NodeStore.{Status, up, down, unloaded}
use Rattle.switch.specs.Switch.{AreStores, ViewFitsNode, IsEffectAtDownNode, IsEffectOfRecovery, IsEffectUnlessDown, IsOutcomeAt, IsRecoveryOutcome, IsReloadOutcome, Plays, Refuses, StoreView, SwitchView, UnloadedAreIdle, history_of, is_down, is_down_at, is_down_view, is_unloaded, is_unloaded_at, is_unloaded_view, pending_events, with_event, with_store}
use Rattle.nodes.specs.Runs.{GoesOnFrom}
use Rattle.nodes.specs.Desk.{Stands}
use Rattle.nodes.proofs.PrefixLemmas.{prefix_self, prefix_trans}

goes_as : {V : Type 0} (size : V → ℕ) (old new : SwitchView V) → new.weights ≡ old.weights → new.event_limit ≡ old.event_limit → new.begins ≡ old.begins → IsPrefixOf old.history new.history → GoesOnFrom size old new
goes_as {V} size old new same_weights same_limit same_begins more = record {
  events = more;
  moments = λ w m. record {
    world = w;
    moment = record {
      early = m.early;
      begins = prefix_trans m.early old.history new.history m.begins more;
      is_after =
          ap (λ (ws : List ℕ). events_result size m.early (Ok (resumed ws new.event_limit new.begins))) same_weights
          ∙ ap (λ (limit : ℕ). events_result size m.early (Ok (resumed old.weights limit new.begins))) same_limit
          ∙ ap (λ (parts : List (KeptPart V)). events_result size m.early (Ok (resumed old.weights old.event_limit parts))) same_begins
          ∙ m.is_after;
    };
    logs = λ k. refl;
  };
}

pub goes_self : {V : Type 0} (size : V → ℕ) (s : SwitchView V) → GoesOnFrom size s s
goes_self size s = goes_as size s s refl refl refl (prefix_self s.history)

pub goes_then : {V : Type 0} (size : V → ℕ) (old mid new : SwitchView V) → GoesOnFrom size old mid → GoesOnFrom size mid new → GoesOnFrom size old new
goes_then size old mid new a b = record {
  events = prefix_trans old.history mid.history new.history a.events b.events;
  moments = λ w m.
      let first = a.moments w m in
      let second = b.moments first.world first.moment in
      record { world = second.world; moment = second.moment; logs = λ k. second.logs k ∙ first.logs k };
}

pub goes_same : {V : Type 0} (size : V → ℕ) (old new : SwitchView V) → new ≡ old → GoesOnFrom size old new
goes_same {V} size old new is = subst (λ (s : SwitchView V). GoesOnFrom size old s) (sym is) (goes_self size old)

-- only a store changes
pub goes_store : {V : Type 0} (size : V → ℕ) (old new : SwitchView V) (k : ℕ) (view : StoreView V) → new ≡ with_store old k view → GoesOnFrom size old new
goes_store {V} size old new k view is = subst (λ (s : SwitchView V). GoesOnFrom size old s) (sym is) (goes_as size old (with_store old k view) refl refl refl (prefix_self old.history))

-- where nothing happens at a node, nothing happens early
idle_early : {V : Type 0} (size : V → ℕ) (k : ℕ) (r : Result (World V) StepFault) (xs ys : List (Event V)) → AreOfOthers size k r (xs ++ ys) → AreOfOthers size k r xs
idle_early size k r [] ys h = tt
idle_early size k (Err fault) (e ∷ es) ys h = tt
idle_early size k (Ok w) (e ∷ es) ys h = (h.0, idle_early size k (event_result size w e) es ys h.1)

abbrev with_first : {V : Type 0} → SwitchView V → List (Event V) → History V
with_first s early = record { weights = s.weights; event_limit = s.event_limit; begins = s.begins; events = early }

-- a node at which nothing happened begins again
goes_again : {V : Type 0} (size : V → ℕ) (old new : SwitchView V) (k : ℕ) (kept : KeptPart V) (stores : List (StoreView V)) → IsIdle size (history_of old) k
    → new ≡ record { weights = old.weights; event_limit = old.event_limit; begins = slice_set old.begins k kept; history = old.history; stores = stores } → GoesOnFrom size old new
goes_again {V} size old new k kept stores idle is = subst (λ (s : SwitchView V). GoesOnFrom size old s) (sym is) (record {
  events = prefix_self old.history;
  moments = λ w m. record {
    world = again size (with_first old m.early) w m.is_after k (none m.early m.begins) kept;
    moment = record { early = m.early; begins = m.begins; is_after = again_is size (with_first old m.early) w m.is_after k (none m.early m.begins) kept };
    logs = again_log size (with_first old m.early) w m.is_after k (none m.early m.begins) kept;
  };
}) where
  none : (early : List (Event V)) → IsPrefixOf early old.history → IsIdle size (with_first old early) k
  none early p = idle_early size k (Ok (first_world (with_first old early))) early p.0 (subst (λ (es : List (Event V)). AreOfOthers size k (Ok (first_world (with_first old early))) es) (sym p.1) idle)

-- What an event leaves.

pub record PlaysOn {V : Type 0} (size : V → ℕ) (old new : SwitchView V) (e : Event V) (result : Result ℕ StepFault) : Type 0 where
  pub goes : GoesOnFrom size old new
  pub stands : OnOk result (Stands old.history new.history e)

pub no_stand : {A E : Type 0} (P : Type 0) (r : Result A E) (fault : E) → r ≡ Err fault → OnOk r P
no_stand P (Ok a) fault is = cc
no_stand P (Err e) fault is = tt

pub then_ok : {A E : Type 0} (P Q : Type 0) (r : Result A E) → (P → Q) → OnOk r P → OnOk r Q
then_ok P Q (Ok a) more p = more p
then_ok P Q (Err e) more p = tt

-- The node of an event that is taken exists, and so does its store.

record HasNode {V : Type 0} (w : World V) (e : Event V) : Type 0 where
  k : ℕ
  is_node : node_of w e ≡ Some k
  node : Node V
  at : slice_get w.nodes k ≡ Some node

module _ {V : Type 0} (size : V → ℕ) (w x : World V) where
  node_at : (e : Event V) (k : ℕ) → node_of w e ≡ Some k → (make : Node V → Result (StepResult V) Refusal) (o : Option (Node V)) → slice_get w.nodes k ≡ o → at_node w k make o ≡ Ok x → HasNode w e
  node_at e k is make None at happened = cc
  node_at e k is make (Some n) at happened = record { k = k; is_node = is; node = n; at = at }

  node_delivered : (number : ℕ) (o : Option (Packet V)) → slice_get w.packets number ≡ o → delivered w o ≡ Ok x → HasNode w (Deliver number)
  node_delivered number None at happened = cc
  node_delivered number (Some p) at happened = node_at (Deliver number) p.to (ap (λ (o : Option (Packet V)). option_map (λ p. p.to) o) at) (λ n. Ok (on_packet n p)) (slice_get w.nodes p.to) refl happened

  node_without : (e : Event V) → event_result_without_limit size w e ≡ Ok x → HasNode w e
  node_without (Offer k v) happened = node_at (Offer k v) k refl (λ n. offer_result size n v) (slice_get w.nodes k) refl happened
  node_without (Begin k) happened = node_at (Begin k) k refl begin_result (slice_get w.nodes k) refl happened
  node_without (Deliver number) happened = node_delivered number (slice_get w.packets number) refl happened
  node_without (Restart k) happened = node_at (Restart k) k refl (λ n. Ok (restarted n)) (slice_get w.nodes k) refl happened

  unspent : (t : Bool) (r : Result (World V) StepFault) → (if t then Err EventsSpent else r) ≡ Ok x → r ≡ Ok x
  unspent true r is = cc
  unspent false r is = is

  node_there : (e : Event V) → event_result size w e ≡ Ok x → HasNode w e
  node_there e happened = node_without e (unspent (w.event_count == w.event_limit) (event_result_without_limit size w e) happened)

store_there : {V : Type 0} (size : V → ℕ) (w : World V) (stores : List (StoreView V)) (k : ℕ) (n : Node V) → slice_get w.nodes k ≡ Some n → AreStores size w stores → (view : StoreView V) × (slice_get stores k ≡ Some view)
store_there {V} size w stores k n at are = by_view (slice_get stores k) refl where
  by_view : (o : Option (StoreView V)) → slice_get stores k ≡ o → (view : StoreView V) × (slice_get stores k ≡ Some view)
  by_view (Some view) is = (view, is)
  by_view None is = absurd (subst (λ (o : Option (StoreView V)). ViewFitsNode size w (Some n) o) is (subst (λ (o : Option (Node V)). ViewFitsNode size w o (slice_get stores k)) at (are k)))

module _ {V : Type 0} (size : V → ℕ) (old new : SwitchView V) where
  refuses_on : (e : Event V) (result : Result ℕ StepFault) (fault : StepFault) → Refuses old new result fault → PlaysOn size old new e result
  refuses_on e result fault h = record { goes = goes_same size old new h.1; stands = no_stand (Stands old.history new.history e) result fault h.0 }

  outcome_on : (e : Event V) (k : ℕ) (view : StoreView V) (change : Option (Change V)) (x : World V) (r : Result ℕ StepFault) → IsOutcomeAt old new e k view change x r → PlaysOn size old new e r
  outcome_on e k view change x (Ok count) h = subst (λ (s : SwitchView V). PlaysOn size old s e (Ok count)) (sym h.0) record {
    goes = goes_as size old (with_event old k view change e) refl refl refl (e ∷ [], refl);
    stands = record { before = old.history; later = prefix_self old.history; is = refl };
  }
  outcome_on e k view change x (Err fault) (inl h) = record { goes = goes_same size old new h.1; stands = tt }
  outcome_on e k view change x (Err fault) (inr h) = record { goes = goes_store size old new k _ h.1.rest; stands = tt }

  recovered_on : (w : World V) (k : ℕ) (view : StoreView V) (e : Option (Event V)) (r : Result ℕ StepFault) → IsRecoveryOutcome size w old new k view e r → PlaysOn size old new (Restart k) r
  recovered_on w k view e (Ok count) h = subst (λ (s : SwitchView V). PlaysOn size old s (Restart k) (Ok count)) (sym h.rest) record {
    goes = goes_as size old _ refl refl refl (pending_events e ++ Restart k ∷ [], sym (append_assoc old.history (pending_events e) (Restart k ∷ [])));
    stands = record { before = old.history ++ pending_events e; later = (pending_events e, refl); is = refl };
  }
  recovered_on w k view e (Err fault) (inl h) = record { goes = goes_store size old new k _ h.1.rest; stands = tt }
  recovered_on w k view e (Err fault) (inr h) = record { goes = goes_store size old new k _ h.1.rest; stands = tt }

  up_on : (w : World V) → AreStores size w old.stores → (e : Event V) (result : Result ℕ StepFault) → IsEffectUnlessDown size w old new e result → PlaysOn size old new e result
  up_on w stores e result effect = by_world (event_result size w e) refl where
    by_world : (r : Result (World V) StepFault) → event_result size w e ≡ r → PlaysOn size old new e result
    by_world (Err fault) meets = refuses_on e result fault (effect.refused fault meets)
    by_world (Ok x) happened =
        let n = node_there size w x e happened in
        let view = store_there size w old.stores n.k n.node n.at stores in
        outcome_on e n.k view.0 (change_of size w e) x result (effect.taken x happened n.k n.is_node view.0 view.1)

reload_on : {V : Type 0} (size : V → ℕ) (old new : SwitchView V) (k : ℕ) (result : Result ℕ StepFault) → IsIdle size (history_of old) k → IsReloadOutcome size old new k result → PlaysOn size old new (Restart k) result
reload_on size old new k result idle (inl h) = record { goes = goes_store size old new k _ h.1.fails.rest; stands = no_stand (Stands old.history new.history (Restart k)) result Device h.0 }
reload_on {V} size old new k result idle (inr h) =
    let after = up_on size h.0 new h.1.world h.1.stores (Restart k) result (h.2 h.1.world h.1.is_after) in
    let same : h.0.history ≡ old.history = ap (λ (s : SwitchView V). s.history) h.1.rest in
    record {
      goes = goes_then size old h.0 new (goes_again size old h.0 k h.1.view.kept _ idle h.1.rest) after.goes;
      stands = then_ok (Stands h.0.history new.history (Restart k)) (Stands old.history new.history (Restart k)) result (λ s. record { before = s.before; later = subst (λ (es : List (Event V)). IsPrefixOf es s.before) same s.later; is = s.is }) after.stands;
    }

module _ {V : Type 0} (size : V → ℕ) (old : SwitchView V) (w : World V) (stores : AreStores size w old.stores) (new : SwitchView V) where
  down_on : (e : Event V) (result : Result ℕ StepFault) → is_down_at old.stores (node_of w e) ≡ true → ((k : ℕ) → e ≡ Restart k → UnloadedAreIdle size old)
      → ((k : ℕ) → e ≡ Restart k → is_unloaded_at old.stores k ≡ true → IsReloadOutcome size old new k result) → IsEffectAtDownNode size w old new e result → PlaysOn size old new e result
  down_on (Offer k v) result test idle reload effect = refuses_on size old new (Offer k v) result Down effect
  down_on (Begin k) result test idle reload effect = refuses_on size old new (Begin k) result Down effect
  down_on (Deliver number) result test idle reload effect = refuses_on size old new (Deliver number) result Down effect
  down_on (Restart j) result test idle reload effect = by_view (slice_get old.stores j) refl where
    by_room : (view : StoreView V) (e : Option (Event V)) → IsEffectOfRecovery size w old new j view e result → (t : Bool) → nat_lt old.event_limit (length old.history + 2) ≡ t → PlaysOn size old new (Restart j) result
    by_room view e recovers true room = refuses_on size old new (Restart j) result EventsSpent (recovers.spent (grind (arith, nat_tests)))
    by_room view e recovers false room = recovered_on size old new w j view e result (recovers.recovered (grind (arith, nat_tests)))

    by_standing : (view : StoreView V) → slice_get old.stores j ≡ Some view → (s : Status (Event V)) → view.status ≡ s → PlaysOn size old new (Restart j) result
    by_standing view at up stands =
        let no : false ≡ true = sym (ap (λ (o : Option (StoreView V)). is_down_view o) at ∙ ap (λ (s : Status (Event V)). is_down s) stands) ∙ test in cc
    by_standing view at (down e) stands = by_room view e (effect view at e stands) (nat_lt old.event_limit (length old.history + 2)) refl
    by_standing view at unloaded stands = reload_on size old new j result (idle j refl j view at stands)
        (reload j refl (ap (λ (o : Option (StoreView V)). is_unloaded_view o) at ∙ ap (λ (s : Status (Event V)). is_unloaded s) stands))

    by_view : (o : Option (StoreView V)) → slice_get old.stores j ≡ o → PlaysOn size old new (Restart j) result
    by_view None none = let no : false ≡ true = sym (ap (λ (o : Option (StoreView V)). is_down_view o) none) ∙ test in cc
    by_view (Some view) at = by_standing view at view.status refl

-- the switch goes on, and an event that is taken stands behind all earlier ones
pub plays_on : {V : Type 0} (size : V → ℕ) (old new : SwitchView V) (e : Event V) (result : Result ℕ StepFault) → Plays size old new e result → ((k : ℕ) → e ≡ Restart k → UnloadedAreIdle size old) → PlaysOn size old new e result
plays_on size old new e result p idle = by_test (is_down_at old.stores (node_of p.world e)) refl where
  by_test : (t : Bool) → is_down_at old.stores (node_of p.world e) ≡ t → PlaysOn size old new e result
  by_test true test = down_on size old p.world p.stores new e result test idle p.effect.is_unloaded (p.effect.is_down test)
  by_test false test = up_on size old new p.world p.stores e result (p.effect.is_up test)
