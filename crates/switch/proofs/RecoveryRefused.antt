-- A restart of a node that is down when there is no room in the history, or no memory.
use Rattle.switch.proofs.Words.{◌≡◌, ℕ, ◌+◌, ◌<◌, ◌≤◌, true, false, List, length, slice_get, inl, Option, Some, None, Result, Ok, Err, refl, ap, sym, ◌∙◌, subst, arith, ForOk, OnOk, IsOkUnless, Node, restarted, Event, Restart, StepFault, Memory, EventsSpent, World, after_step, at_node, world_of_taken, StagedEvent, NetView, set_same, next_is, down, StoreState, StoreView, SwitchView, views_of, IsSwitch, world_of, is_down_at, is_down_view, with_store, IsEffectOfRecovery, with_event}
use Rattle.switch.proofs.StoresLemmas.{view_past}
use Rattle.switch.proofs.SwitchLemmas.{switch_view}
use Rattle.switch.proofs.CallLemmas.{of_world, node_there}

-- if fewer than two events are left, EventsSpent is the right answer
pub recover_spent : {V : Type 0} (size : V → ℕ) (net : NetView V) (stores : List (StoreState V)) (h : IsSwitch size net stores) (now : SwitchView V) (seen : switch_view net stores ≡ now) (j : ℕ) → net.history.event_limit < length net.history.events + 2
    → ForOk (world_of size now) (λ x. (view : StoreView V) → slice_get now.stores j ≡ Some view → (e : Option (Event V)) → view.status ≡ down e → IsEffectOfRecovery size x now now j view e (Err EventsSpent))
recover_spent {V} size net stores h now seen j spent = of_world size net stores h now seen (λ s x. (view : StoreView V) → slice_get s.stores j ≡ Some view → (e : Option (Event V)) → view.status ≡ down e → IsEffectOfRecovery size x s s j view e (Err EventsSpent))
    (λ view found e stands. record { spent = λ more. (refl, refl); recovered = λ room. absurd (omega (arith, spent, room)) })

-- if the restart was not readied, the fault is Memory, which is the right answer
pub recover_unready : {V : Type 0} (size : V → ℕ) (net : NetView V) (stores : List (StoreState V)) (h : IsSwitch size net stores) (now : SwitchView V) (seen : switch_view net stores ≡ now) (j : ℕ) → is_down_at now.stores (Some j) ≡ true
    → length net.history.events + 2 ≤ net.history.event_limit → (fault : StepFault) (r : Result (StagedEvent V) StepFault) → r ≡ Err fault → (new : SwitchView V) → new ≡ switch_view net stores → OnOk (world_of_taken size (with_event net.history (Restart j))) (IsOkUnless r Memory)
    → ForOk (world_of size now) (λ x. (view : StoreView V) → slice_get now.stores j ≡ Some view → (e : Option (Event V)) → view.status ≡ down e → IsEffectOfRecovery size x now new j view e (Err fault))
recover_unready {V} size net stores h now seen j test room fault r is_err new same memory =
    of_world size net stores h now seen (λ s x. (view : StoreView V) → slice_get s.stores j ≡ Some view → (e : Option (Event V)) → view.status ≡ down e → IsEffectOfRecovery size x s new j view e (Err fault))
    (λ view found e stands. record {
      spent = λ spent. absurd (omega (arith, spent, room));
      recovered = λ le. inl (is_memory, record { kept = view.kept; either = inl refl; rest = same ∙ sym (kept_view view found) });
    }) where
      kept_view : (view : StoreView V) → slice_get (views_of stores) j ≡ Some view → with_store (switch_view net stores) j (record view { kept = view.kept }) ≡ switch_view net stores
      kept_view view found = ap (λ (ps : List (StoreView V)). let s : SwitchView V = record { weights = net.history.weights; event_limit = net.history.event_limit; begins = net.history.begins; history = net.history.events; stores = ps } in s) (set_same (views_of stores) j view found)

      down_store : (o : Option (StoreState V)) → slice_get stores j ≡ o → (store : StoreState V) × (slice_get stores j ≡ Some store)
      down_store (Some store) is = (store, is)
      down_store None none =
          let no : false ≡ true = sym (ap (λ (p : Option (StoreView V)). is_down_view p) (view_past stores j none)) ∙ ap (λ (s : SwitchView V). is_down_at s.stores (Some j)) seen ∙ test in cc

      happens_ok : (n : Node V) → slice_get h.world.world.nodes j ≡ Some n → world_of_taken size (with_event net.history (Restart j)) ≡ Ok (after_step h.world.world j (restarted n))
      happens_ok n at_n = next_is size net.history net.cores net.packets h.world (omega (arith, room)) (Restart j) ∙ ap (λ (o : Option (Node V)). at_node h.world.world j (λ n. Ok (restarted n)) o) at_n

      is_memory : fault ≡ Memory
      is_memory =
          let store = down_store (slice_get stores j) refl in
          let n = node_there size net stores h now seen j store.0 store.1 in
          let told : IsOkUnless r Memory = subst (λ (x : Result (World V) StepFault). OnOk x (IsOkUnless r Memory)) (happens_ok n.0 n.1) memory in
          subst (λ (a : Result (StagedEvent V) StepFault). IsOkUnless a Memory) is_err told
