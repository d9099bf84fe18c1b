-- A switch whose nodes begin with the records of keeps.
use Rattle.switch.proofs.Words.{◌≡◌, ℕ, zero, suc, List, [], ◌∷◌, ◌++◌, length, slice_get, option_map, Option, Some, Ok, inl, inr, ◌⊎◌, refl, ap, sym, ◌∙◌, subst, map-append, KeptPart, kept_of, Node, StagedEvent, World, resumed, History, AreOfWorld, world_of_taken, kept_parts_of, kept_parts-read, IsIdle, NetView, Status, up, unloaded, StoreState, IsRecordOf, StoreView, view_of, views_of, status_view, IsPendingStaged, StoreFitsNode, IsSwitch, AreResumedStores, IsResumedStore, IsResumed}
use Rattle.synod.specs.Record.{RecordView}
use Rattle.switch.proofs.StoresLemmas.{view_at, count_views, status_up, status_unloaded}
use Rattle.switch.proofs.SwitchLemmas.{switch_view}

-- there are as many as keeps
pub resumed_counts : {V K : Type 0} (kept : K → KeptPart V) (failures : K → ℕ) (keeps : List K) (begins : List (KeptPart V)) (views : List (StoreView V)) → AreResumedStores kept failures keeps begins views → (length begins ≡ length keeps) × (length views ≡ length keeps)
resumed_counts kept failures [] [] [] h = (refl, refl)
resumed_counts kept failures (keep ∷ keeps) (begun ∷ begins) (view ∷ views) h = let c = resumed_counts kept failures keeps begins views h.1 in (ap suc c.0, ap suc c.1)
resumed_counts kept failures [] (begun ∷ begins) views h = elim h [ ]
resumed_counts kept failures [] [] (view ∷ views) h = elim h [ ]
resumed_counts kept failures (keep ∷ keeps) [] views h = elim h [ ]
resumed_counts kept failures (keep ∷ keeps) (begun ∷ begins) [] h = elim h [ ]

-- one more node
pub resumed-push : {V K : Type 0} (kept : K → KeptPart V) (failures : K → ℕ) (keeps : List K) (begins : List (KeptPart V)) (views : List (StoreView V)) (keep : K) (begun : KeptPart V) (view : StoreView V) → AreResumedStores kept failures keeps begins views → IsResumedStore (kept keep) (failures keep) begun view
    → AreResumedStores kept failures (keeps ++ keep ∷ []) (begins ++ begun ∷ []) (views ++ view ∷ [])
resumed-push kept failures [] [] [] keep begun view h is = (is, tt)
resumed-push kept failures (k ∷ keeps) (b ∷ begins) (v ∷ views) keep begun view h is = (h.0, resumed-push kept failures keeps begins views keep begun view h.1 is)
resumed-push kept failures [] (b ∷ begins) views keep begun view h is = elim h [ ]
resumed-push kept failures [] [] (v ∷ views) keep begun view h is = elim h [ ]
resumed-push kept failures (k ∷ keeps) [] views keep begun view h is = elim h [ ]
resumed-push kept failures (k ∷ keeps) (b ∷ begins) [] keep begun view h is = elim h [ ]

views_of-push : {V : Type 0} (stores : List (StoreState V)) (store : StoreState V) → views_of (stores ++ store ∷ []) ≡ views_of stores ++ view_of store ∷ []
views_of-push [] store = refl
views_of-push (s ∷ stores) store = ap (λ vs. view_of s ∷ vs) (views_of-push stores store)

-- the records and stores of the keeps so far, with one more
pub resumed_more : {V K : Type 0} (kept : K → KeptPart V) (failures : K → ℕ) (keeps : List K) (keep : K) (records newer : List (RecordView V)) (stored : RecordView V) (stores more : List (StoreState V)) (store : StoreState V)
    → newer ≡ records ++ stored ∷ [] → more ≡ stores ++ store ∷ [] → AreResumedStores kept failures keeps (kept_parts_of records) (views_of stores) → IsResumedStore (kept keep) (failures keep) stored.kept (view_of store)
    → AreResumedStores kept failures (keeps ++ keep ∷ []) (kept_parts_of newer) (views_of more)
resumed_more {V} kept failures keeps keep records newer stored stores more store pushed added h is =
    let begins : kept_parts_of newer ≡ kept_parts_of records ++ stored.kept ∷ [] = ap (λ (rs : List (RecordView V)). kept_parts_of rs) pushed ∙ map-append (λ (r : RecordView V). r.kept) records (stored ∷ []) in
    let views : views_of more ≡ views_of stores ++ view_of store ∷ [] = ap (λ (ss : List (StoreState V)). views_of ss) added ∙ views_of-push stores store in
    subst (λ (bs : List (KeptPart V)). AreResumedStores kept failures (keeps ++ keep ∷ []) bs (views_of more)) (sym begins)
    (subst (λ (vs : List (StoreView V)). AreResumedStores kept failures (keeps ++ keep ∷ []) (kept_parts_of records ++ stored.kept ∷ []) vs) (sym views)
    (resumed-push kept failures keeps (kept_parts_of records) (views_of stores) keep stored.kept (view_of store) h is))

-- what node k begins with and its store
resumed_at : {V K : Type 0} (kept : K → KeptPart V) (failures : K → ℕ) (keeps : List K) (begins : List (KeptPart V)) (views : List (StoreView V)) → AreResumedStores kept failures keeps begins views
    → (k : ℕ) (begun : KeptPart V) (view : StoreView V) → slice_get begins k ≡ Some begun → slice_get views k ≡ Some view → ((view.kept ≡ begun) × (view.status ≡ up)) ⊎ (view.status ≡ unloaded)
resumed_at kept failures [] [] [] h k begun view b v = cc
resumed_at {V} kept failures (keep ∷ keeps) (x ∷ begins) (y ∷ views) h zero begun view b v =
    let same_x : x ≡ begun = cc in
    let same_y : y ≡ view = cc in
    elim h.0 [
      | inl is ↦ inl (ap (λ (p : StoreView V). p.kept) (sym same_y ∙ is.1) ∙ sym is.0 ∙ same_x, ap (λ (p : StoreView V). p.status) (sym same_y ∙ is.1))
      | inr is ↦ inr (ap (λ (p : StoreView V). p.status) (sym same_y ∙ is.1))
    ]
resumed_at kept failures (keep ∷ keeps) (x ∷ begins) (y ∷ views) h (suc k) begun view b v = resumed_at kept failures keeps begins views h.1 k begun view b v
resumed_at kept failures [] (x ∷ begins) views h k begun view b v = elim h [ ]
resumed_at kept failures [] [] (y ∷ views) h k begun view b v = elim h [ ]
resumed_at kept failures (keep ∷ keeps) [] views h k begun view b v = elim h [ ]
resumed_at kept failures (keep ∷ keeps) (x ∷ begins) [] h k begun view b v = elim h [ ]

module _ {V K : Type 0} (size : V → ℕ) (kept : K → KeptPart V) (failures : K → ℕ) (net : NetView V) (weights : List ℕ) (limit : ℕ) (keeps : List K) (records : List (RecordView V)) (stores : List (StoreState V)) (h : AreOfWorld size net.history net.cores net.packets)
    (is : net.history ≡ record { weights = weights; event_limit = limit; begins = kept_parts_of records; events = [] }) (cores : length net.cores ≡ length net.history.weights) (count : length keeps ≡ length weights) (are : AreResumedStores kept failures keeps (kept_parts_of records) (views_of stores)) where
  -- the node begins with what the list says
  begun_at : (k : ℕ) (n : Node V) → slice_get h.world.nodes k ≡ Some n → slice_get (kept_parts_of records) k ≡ Some (kept_of n)
  begun_at k n at =
      let begun : Ok (resumed weights limit (kept_parts_of records)) ≡ Ok h.world = sym (ap (λ (t : History V). world_of_taken size t) is) ∙ h.is_after in
      let same : resumed weights limit (kept_parts_of records) ≡ h.world = cc in
      sym (kept_parts-read weights 0 (kept_parts_of records) k) ∙ ap (λ (w : World V). option_map kept_of (slice_get w.nodes k)) same ∙ ap (λ (o : Option (Node V)). option_map kept_of o) at

  fits_at : (k : ℕ) (n : Node V) (store : StoreState V) → ((store.kept ≡ kept_of n) × (status_view store.status ≡ up)) ⊎ (status_view store.status ≡ unloaded) → StoreFitsNode size net k n store
  fits_at k n store (inl own) = record {
    fits = subst (λ (s : Status (StagedEvent V)). IsRecordOf n s store.kept) (sym (status_up store.status own.1)) own.0;
    pending_staged = subst (λ (s : Status (StagedEvent V)). IsPendingStaged size net k s) (sym (status_up store.status own.1)) tt;
  }
  fits_at k n store (inr shown) = record {
    fits = subst (λ (s : Status (StagedEvent V)). IsRecordOf n s store.kept) (sym (status_unloaded store.status shown)) tt;
    pending_staged = subst (λ (s : Status (StagedEvent V)). IsPendingStaged size net k s) (sym (status_unloaded store.status shown)) (subst (λ (t : History V). IsIdle size t k) (sym is) tt);
  }

  -- the net and the stores are a switch
  pub resumes : IsSwitch size net stores
  resumes = record {
    world = h;
    count = sym (count_views stores) ∙ (resumed_counts kept failures keeps (kept_parts_of records) (views_of stores) are).1 ∙ count ∙ sym (cores ∙ ap (λ (t : History V). length t.weights) is);
    each = λ k n store at found. fits_at k n store (resumed_at kept failures keeps (kept_parts_of records) (views_of stores) are k (kept_of n) (view_of store) (begun_at k n at) (view_at stores k store found));
  }

  -- and it is what the keeps make
  pub is_resumed : IsResumed kept failures weights limit keeps (switch_view net stores)
  is_resumed = record {
    weights_are = ap (λ (t : History V). t.weights) is;
    limit_is = ap (λ (t : History V). t.event_limit) is;
    no_events = ap (λ (t : History V). t.events) is;
    stores = subst (λ (bs : List (KeptPart V)). AreResumedStores kept failures keeps bs (views_of stores)) (sym (ap (λ (t : History V). t.begins) is)) are;
  }
