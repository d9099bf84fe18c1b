-- Several packets delivered at one node, and the commit at the end.
use Rattle.switch.proofs.Words.{◌≡◌, ℕ, ◌<◌, ◌+◌, Bool, true, false, List, [], ◌∷◌, ◌++◌, length, get_or, set, slice_get, slice_get_read, Option, Some, None, inl, inr, refl, ap, sym, ◌∙◌, subst, KeptPart, kept_of, Node, StagedEvent, NetView, Status, up, down, StoreState, IsRecordOf, IsWithOrWithout, Fails, EndsGroup, ended, StoreView, SwitchView, status_view, view_of, views_of, IsPendingStaged, StoreFitsNode, IsSwitch, KeepsPrefixes, with_store, with_group, with_group_of, FailsAt, EndsGroupAt, DeliversInTurn, DeliversOrLeaves}
use Rattle.switch.proofs.StoresLemmas.{views_of-set, view_at, down_unless_up}
use Rattle.switch.proofs.SwitchLemmas.{switch_view, other_store}
use Rattle.switch.proofs.CallLemmas.{node_there}
use Rattle.switch.proofs.BelongsLemmas.{same_stays, view_stays}

-- one more packet
pub in_turn-push : {V : Type 0} (size : V → ℕ) (k : ℕ) (old mid new : SwitchView V) (numbers : List ℕ) (number : ℕ) → DeliversInTurn size k old mid numbers → DeliversOrLeaves size k mid new number → DeliversInTurn size k old new (numbers ++ number ∷ [])
in_turn-push {V} size k old mid new [] number is p = (new, subst (λ (s : SwitchView V). DeliversOrLeaves size k s new number) is p, refl)
in_turn-push size k old mid new (n ∷ numbers) number h p = (h.0, h.1, in_turn-push size k h.0 mid new numbers number h.2 p)

-- if only the group of a node changes, each prefix of a log remains one
pub group_stays : {V : Type 0} (size : V → ℕ) (old new : SwitchView V) (k : ℕ) (in_group : Bool) (o : Option (StoreView V)) → new ≡ with_group_of old k in_group o → KeepsPrefixes size old new
group_stays size old new k in_group None is = same_stays size old new is
group_stays size old new k in_group (Some view) is = view_stays size old new k (record view { in_group = in_group }) is

module _ {V : Type 0} (size : V → ℕ) (net : NetView V) (stores : List (StoreState V)) (h : IsSwitch size net stores) (now : SwitchView V) (seen : switch_view net stores ≡ now) (k : ℕ) (store new : StoreState V) (low : k < length stores) (is : store ≡ get_or stores k store) where
  found : slice_get stores k ≡ Some store
  found = slice_get_read stores (length stores) k store refl low is

  shown : slice_get now.stores k ≡ Some (view_of store)
  shown = ap (λ (s : SwitchView V). slice_get s.stores k) (sym seen) ∙ view_at stores k store found

  there : (n : Node V) × (slice_get h.world.world.nodes k ≡ Some n)
  there = node_there size net stores h now seen k store found

  own : StoreFitsNode size net k there.0 store
  own = h.each k there.0 store there.1 found

  after : SwitchView V
  after = switch_view net (set stores k new)

  -- the view with another store
  view_with : after ≡ with_store now k (view_of new)
  unfolding after
  view_with = ap (λ (ps : List (StoreView V)). let s : SwitchView V = record { weights = net.history.weights; event_limit = net.history.event_limit; begins = net.history.begins; history = net.history.events; stores = ps } in s) (views_of-set stores k new)
      ∙ ap (λ (s : SwitchView V). with_store s k (view_of new)) seen

  module _ (in_group : Bool) (same : new ≡ record store { in_group = in_group }) where
    -- if only the group changes, the net and the stores are a switch
    pub regrouped : IsSwitch size net (set stores k new)
    regrouped = other_store size net stores h k there.0 store new there.1 found
        (subst (λ (s : StoreState V). StoreFitsNode size net k there.0 s) (sym same) record { fits = own.fits; pending_staged = own.pending_staged })

    regrouped_view : after ≡ with_store now k (record (view_of store) { in_group = in_group })
    regrouped_view = view_with ∙ ap (λ (s : StoreState V). with_store now k (view_of s)) same

    -- and its view is that with the group
    pub grouped_view : switch_view net (set stores k new) ≡ with_group now k in_group
    unfolding after
    grouped_view = regrouped_view ∙ ap (λ (o : Option (StoreView V)). with_group_of now k in_group o) (sym shown)

  module _ (was_up : store.status ≡ up) (fails : Fails (ended store) None (down None) new) where
    stands : new.status ≡ down None
    stands = ap (λ (s : StoreState V). s.status) fails.rest

    fits : IsRecordOf there.0 (down None) new.kept
    fits = subst (λ (x : KeptPart V). IsWithOrWithout x None new.kept) (subst (λ (s : Status (StagedEvent V)). IsRecordOf there.0 s store.kept) was_up own.fits) fails.kept

    failed_switch : IsSwitch size net (set stores k new)
    failed_switch = other_store size net stores h k there.0 store new there.1 found record {
      fits = subst (λ (s : Status (StagedEvent V)). IsRecordOf there.0 s new.kept) (sym stands) fits;
      pending_staged = subst (λ (s : Status (StagedEvent V)). IsPendingStaged size net k s) (sym stands) tt;
    }

    failed_view : FailsAt now after k (record (view_of store) { in_group = false }) None (down None)
    failed_view = record {
      kept = new.kept;
      either = fails.kept;
      rest = view_with ∙ ap (λ (s : StoreState V). with_store now k (view_of s)) fails.rest;
    }

  -- after the end of a group the net and the stores are a switch
  pub ends_switch : (result : Bool) → EndsGroup store new result → IsSwitch size net (set stores k new)
  ends_switch true c = regrouped false c.1
  ends_switch false (inl c) = regrouped false c.1
  ends_switch false (inr c) = failed_switch c.0 c.1

  own_end : (result : Bool) → EndsGroup store new result → EndsGroupAt now after k (view_of store) result
  own_end true c = (ap (λ (s : Status (StagedEvent V)). status_view s) c.0, regrouped_view false c.1)
  own_end false (inl c) = inl (down_unless_up store.status c.0, regrouped_view false c.1)
  own_end false (inr c) = inr (ap (λ (s : Status (StagedEvent V)). status_view s) c.0, failed_view c.0 c.1)

  -- and it has its effect
  pub ends_view : (result : Bool) → EndsGroup store new result → (view : StoreView V) → slice_get now.stores k ≡ Some view → EndsGroupAt now (switch_view net (set stores k new)) k view result
  unfolding after
  ends_view result c view at =
      let both : Some (view_of store) ≡ Some view = sym shown ∙ at in
      let same : view_of store ≡ view = cc in
      subst (λ (p : StoreView V). EndsGroupAt now after k p result) same (own_end result c)

  -- each prefix of a log remains one
  pub ends_logs : KeepsPrefixes size now (switch_view net (set stores k new))
  unfolding after
  ends_logs = view_stays size now after k (view_of new) view_with

  -- there is such a store
  pub none_past : slice_get now.stores k ≡ None → ⊥
  none_past none = let never : Some (view_of store) ≡ None = sym shown ∙ none in cc
