-- A call as a whole: its answer in the world after the history, and the logs after it.
use Rattle.switch.proofs.Words.{◌≡◌, ℕ, true, false, List, Option, Some, None, Result, Ok, Err, refl, ap, sym, ◌∙◌, subst, slice_get, IsErrAnd, ForOk, Event, Restart, StepFault, Memory, World, node_of_event, node_of, StagedEvent, NetView, Status, up, down, unloaded, StoreState, StoreView, SwitchView, status_view, view_of, views_of, IsPendingStaged, IsSwitch, IsReloadOutcome, is_down_at, is_unloaded_at, world_of, IsEffectUnlessDown, IsEffectAtDownNode, IsEffectOfRecovery, IsEffect, Plays, EventKeepsPrefixes}
use Rattle.switch.proofs.StoresLemmas.{view_at, view_past}
use Rattle.switch.proofs.SwitchLemmas.{switch_view, at}
use Rattle.switch.proofs.CallLemmas.{stores_are, after_is, node_there, node_seen}
use Rattle.switch.proofs.DispatchLemmas.{down_acts, up_acts}
use Rattle.switch.proofs.BelongsLemmas.{acts_logs}

-- An error that `?` returns from a call.
pub answers : (r : Result ℕ StepFault) (fault : StepFault) → IsErrAnd r (λ f. f ≡ fault) → r ≡ Err fault
answers (Err f) fault h = ap (λ (x : StepFault). let a : Result ℕ StepFault = Err x in a) h
answers (Ok count) fault h = elim h [ ]

-- an error that is returned is Memory, if the fault is
pub answers_memory : (r : Result ℕ StepFault) (fault : StepFault) → IsErrAnd r (λ f. f ≡ fault) → fault ≡ Memory → r ≡ Err Memory
answers_memory r fault h is = answers r fault h ∙ ap (λ (x : StepFault). let a : Result ℕ StepFault = Err x in a) is

module _ {V : Type 0} (size : V → ℕ) (now new : SwitchView V) (fault : StepFault) (r : Result ℕ StepFault) (is : r ≡ Err fault) where
  -- an answer at a node that is up is right for a result that equals the error
  pub up_err : (e : Event V) → ForOk (world_of size now) (λ w. IsEffectUnlessDown size w now new e (Err fault)) → ForOk (world_of size now) (λ w. IsEffectUnlessDown size w now new e r)
  up_err e effect = subst (λ (a : Result ℕ StepFault). ForOk (world_of size now) (λ w. IsEffectUnlessDown size w now new e a)) (sym is) effect

  abbrev ActsAll : ℕ → Result ℕ StepFault → Type 0
  ActsAll k a = ForOk (world_of size now) (λ w. (view : StoreView V) → slice_get now.stores k ≡ Some view → (e : Option (Event V)) → view.status ≡ down e → IsEffectOfRecovery size w now new k view e a)

  -- an answer to a restart of a node that is down is right for a result that equals the error
  pub down_err : (k : ℕ) → ActsAll k (Err fault) → ActsAll k r
  down_err k effect = subst (λ (a : Result ℕ StepFault). ActsAll k a) (sym is) effect

module _ {V : Type 0} (size : V → ℕ) (net : NetView V) (stores : List (StoreState V)) (h : IsSwitch size net stores) (now : SwitchView V) (seen : switch_view net stores ≡ now) where
  -- an event that a node owes is an event of that node
  owed_own : (k : ℕ) (s : Status (StagedEvent V)) → IsPendingStaged size net k s → (e : Event V) → status_view s ≡ down (Some e) → node_of h.world.world e ≡ Some k
  owed_own k up pending_staged e is = cc
  owed_own k (down None) pending_staged e is = cc
  owed_own k unloaded pending_staged e is = cc
  owed_own k (down (Some o)) pending_staged e is =
      let both : down (Some o.event) ≡ down (Some e) = is in
      let same : o.event ≡ e = cc in
      ap (λ (v : Event V). node_of h.world.world v) (sym same) ∙ (at size net stores h o pending_staged.1).node ∙ ap (λ (i : ℕ). let p : Option ℕ = Some i in p) pending_staged.0

  -- an event that a store owes in its view is an event of the store's node
  owed_at : (k : ℕ) (o : Option (StoreState V)) → slice_get stores k ≡ o → (view : StoreView V) → slice_get (views_of stores) k ≡ Some view → (e : Event V) → view.status ≡ down (Some e) → node_of h.world.world e ≡ Some k
  owed_at k None none view is e stands = let no : None ≡ Some view = sym (view_past stores k none) ∙ is in cc
  owed_at k (Some store) some view is e stands =
      let both : Some (view_of store) ≡ Some view = sym (view_at stores k store some) ∙ is in
      let same : view_of store ≡ view = cc in
      let n = node_there size net stores h now seen k store some in
      owed_own k store.status (h.each k n.0 store n.1 some).pending_staged e (ap (λ (p : StoreView V). p.status) same ∙ stands)

  -- if an answer is right in the world after the history, the call plays the event and keeps the
  -- logs
  call_plays : (e : Event V) (new : SwitchView V) (result : Result ℕ StepFault) → ForOk (world_of size now) (λ x. IsEffect size x now new e result) → Plays size now new e result × EventKeepsPrefixes size e now new result
  call_plays e new result effect =
      let was = after_is size net stores h now seen in
      let are = stores_are size net stores h now seen h.world.world was in (
        record { world = h.world.world; is_after = was; stores = are; effect = effect h.world.world was },
        acts_logs size now h.world.world was are new (λ k view is e stands. owed_at k (slice_get stores k) refl view (ap (λ (s : SwitchView V). slice_get s.stores k) seen ∙ is) e stands) e result (effect h.world.world was),
      )

  -- An event whose node was found by its number or its packet.
  module _ (e : Event V) (o : Option ℕ) (node : o ≡ node_of_event net.packets e) where
    -- the node that was found is the node of the event
    pub found_at : (x : World V) → world_of size now ≡ Ok x → node_of x e ≡ o
    found_at = node_seen size net stores h now seen e o node

    -- if the node is down, the call plays the event and keeps the logs
    pub plays_down : is_down_at now.stores o ≡ true → (new : SwitchView V) (result : Result ℕ StepFault) → ((k : ℕ) → e ≡ Restart k → is_unloaded_at now.stores k ≡ true → IsReloadOutcome size now new k result)
        → ForOk (world_of size now) (λ x. IsEffectAtDownNode size x now new e result) → Plays size now new e result × EventKeepsPrefixes size e now new result
    plays_down test new result stays effect = call_plays e new result (down_acts size now e o found_at new result test stays effect)

    -- if the node is up or does not exist, the call plays the event and keeps the logs
    pub plays_up : is_down_at now.stores o ≡ false → (new : SwitchView V) (result : Result ℕ StepFault) → ForOk (world_of size now) (λ x. IsEffectUnlessDown size x now new e result) → Plays size now new e result × EventKeepsPrefixes size e now new result
    plays_up test new result effect = call_plays e new result (up_acts size now e o found_at new result test effect)
