-- Stores and their views, as lists and one by one.
use Rattle.switch.proofs.Words.{◌≡◌, ◌≢◌, ℕ, zero, suc, ◌<◌, ◌≤◌, ◌==◌, Bool, true, false, List, [], ◌∷◌, ◌++◌, length, get_or, set, slice_get, Option, Some, None, refl, ap, sym, ◌∙◌, subst, arith, le_of_suc-le-suc, AllByRecursion, nat_tests, KeptPart, new_kept, Node, Event, StagedEvent, at_set, at_set_other, Status, up, down, unloaded, StoreState, StoreView, status_view, view_of, views_of, new_views, new_stores, is_down, is_down_view, is_down_at, is_unloaded, is_unloaded_view, is_unloaded_at, pending_events}

pub views_of-set : {V : Type 0} (stores : List (StoreState V)) (k : ℕ) (store : StoreState V) → views_of (set stores k store) ≡ set (views_of stores) k (view_of store)
views_of-set [] k store = refl
views_of-set (s ∷ stores) zero store = refl
views_of-set (s ∷ stores) (suc k) store = ap (λ ps. view_of s ∷ ps) (views_of-set stores k store)

-- the view of the store at index k is at index k of the views
pub view_at : {V : Type 0} (stores : List (StoreState V)) (k : ℕ) (store : StoreState V) → slice_get stores k ≡ Some store → slice_get (views_of stores) k ≡ Some (view_of store)
view_at [] k store e = cc
view_at {V} (s ∷ stores) zero store e = let same : s ≡ store = cc in ap (λ (x : StoreState V). let o : Option (StoreView V) = Some (view_of x) in o) same
view_at (s ∷ stores) (suc k) store e = view_at stores k store e

-- if there is no store at an index, there is no view
pub view_past : {V : Type 0} (stores : List (StoreState V)) (k : ℕ) → slice_get stores k ≡ None → slice_get (views_of stores) k ≡ None
view_past [] k e = refl
view_past (s ∷ stores) zero e = cc
view_past (s ∷ stores) (suc k) e = view_past stores k e

-- there are as many views as stores
pub count_views : {V : Type 0} (stores : List (StoreState V)) → length (views_of stores) ≡ length stores
count_views [] = refl
count_views (s ∷ stores) = ap suc (count_views stores)

-- there is an element at each index below the length
pub item_at : {A : Type 0} (xs : List A) (k : ℕ) → k < length xs → (x : A) × (slice_get xs k ≡ Some x)
item_at [] k low = absurd (omega arith)
item_at (x ∷ xs) zero low = (x, refl)
item_at (x ∷ xs) (suc k) low = item_at xs k (le_of_suc-le-suc low)

-- two elements that are read at one index are equal
pub same_at : {A : Type 0} (xs : List A) (k : ℕ) (x y : A) → k < length xs → x ≡ get_or xs k x → y ≡ get_or xs k y → x ≡ y
same_at [] k x y low is other = absurd (omega arith)
same_at (z ∷ xs) zero x y low is other = is ∙ sym other
same_at (z ∷ xs) (suc k) x y low is other = same_at xs k x y (le_of_suc-le-suc low) is other

-- If a fact holds of the changed store and its node, and of all others, it holds of each node and
-- its store after the change.
pub each_after : {V : Type 0} (nodes : List (Node V)) (stores : List (StoreState V)) (P : ℕ → Node V → StoreState V → Type 0) (k : ℕ) (store new : StoreState V) → slice_get stores k ≡ Some store
    → ((m : Node V) → slice_get nodes k ≡ Some m → P k m new) → ((j : ℕ) (m : Node V) (s : StoreState V) → k ≢ j → slice_get nodes j ≡ Some m → slice_get stores j ≡ Some s → P j m s)
    → (j : ℕ) (m : Node V) (s : StoreState V) → slice_get nodes j ≡ Some m → slice_get (set stores k new) j ≡ Some s → P j m s
each_after {V} nodes stores P k store new is own others j m s at is_s = by_test (k == j) refl where
  by_test : (t : Bool) → (k == j) ≡ t → P j m s
  by_test true e =
      let same : k ≡ j = grind (arith, nat_tests) in
      let here : slice_get (set stores k new) k ≡ Some s = ap (λ (i : ℕ). slice_get (set stores k new) i) same ∙ is_s in
      let both : Some new ≡ Some s = sym (at_set stores k new store is) ∙ here in
      let is_new : new ≡ s = cc in
      subst (λ (i : ℕ). P i m s) same (subst (λ (x : StoreState V). P k m x) is_new (own m (ap (λ (i : ℕ). slice_get nodes i) same ∙ at)))
  by_test false e =
      let other : k ≢ j = grind (arith, nat_tests) in
      others j m s other at (sym (at_set_other stores k j new other) ∙ is_s)

-- A node that is not down is up.

-- a status that is not seen as down is up
up_of : {V : Type 0} (s : Status (StagedEvent V)) → is_down (status_view s) ≡ false → s ≡ up
up_of up e = refl
up_of (down o) e = cc
up_of unloaded e = cc

-- a store whose view is not down is up
pub up_at : {V : Type 0} (stores : List (StoreState V)) (k : ℕ) (store : StoreState V) → slice_get stores k ≡ Some store → is_down_at (views_of stores) (Some k) ≡ false → store.status ≡ up
up_at stores k store is e = up_of store.status (sym (ap (λ o. is_down_view o) (view_at stores k store is)) ∙ e)

-- a store whose view is down, and that is not unloaded, is down, and may owe an event
pub down_at : {V : Type 0} (stores : List (StoreState V)) (k : ℕ) (store : StoreState V) → slice_get stores k ≡ Some store → is_down_at (views_of stores) (Some k) ≡ true → is_unloaded_at (views_of stores) k ≡ false → (o : Option (StagedEvent V)) × (store.status ≡ down o)
down_at stores k store is e l = down_owing store.status (sym (ap (λ o. is_down_view o) (view_at stores k store is)) ∙ e) (sym (ap (λ o. is_unloaded_view o) (view_at stores k store is)) ∙ l) where
  down_owing : {V : Type 0} (s : Status (StagedEvent V)) → is_down (status_view s) ≡ true → is_unloaded (status_view s) ≡ false → (o : Option (StagedEvent V)) × (s ≡ down o)
  down_owing up d l = cc
  down_owing (down o) d l = (o, refl)
  down_owing unloaded d l = cc

-- a node that is unloaded is down
pub unloaded_is_down : {V : Type 0} (views : List (StoreView V)) (k : ℕ) → is_unloaded_at views k ≡ true → is_down_at views (Some k) ≡ true
unloaded_is_down views k is = of (slice_get views k) is where
  by_status : {V : Type 0} (s : Status (Event V)) → is_unloaded s ≡ true → is_down s ≡ true
  by_status up t = cc
  by_status (down e) t = refl
  by_status unloaded t = refl

  of : {V : Type 0} (o : Option (StoreView V)) → is_unloaded_view o ≡ true → is_down_view o ≡ true
  of None t = cc
  of (Some view) t = by_status view.status t

-- a status that is shown as up, or as unloaded, is so
pub status_up : {V : Type 0} (s : Status (StagedEvent V)) → status_view s ≡ up → s ≡ up
status_up up e = refl
status_up (down o) e = cc
status_up unloaded e = cc

pub status_unloaded : {V : Type 0} (s : Status (StagedEvent V)) → status_view s ≡ unloaded → s ≡ unloaded
status_unloaded up e = cc
status_unloaded (down o) e = cc
status_unloaded unloaded e = refl

-- a status that is not up is seen as down
pub down_unless_up : {V : Type 0} (s : Status (StagedEvent V)) → s ≢ up → is_down (status_view s) ≡ true
down_unless_up up not = absurd (not refl)
down_unless_up (down o) not = refl
down_unless_up unloaded not = refl

-- New stores.

-- the new stores for keeps with one more are those for the keeps and the one for that keep
pub new_stores-push : {V K : Type 0} (kept : K → KeptPart V) (failures : K → ℕ) (keeps : List K) (keep : K) → new_stores kept failures (keeps ++ keep ∷ []) ≡ new_stores kept failures keeps ++ new_stores kept failures (keep ∷ [])
new_stores-push kept failures [] keep = refl
new_stores-push {V} kept failures (k ∷ keeps) keep = ap (λ (ss : List (StoreState V)). (let s : StoreState V = record { kept = kept k; failures = failures k; status = up; in_group = false } in s) ∷ ss) (new_stores-push kept failures keeps keep)

-- of keeps that have the record of a new node each has it
pub new_among : {V K : Type 0} (kept : K → KeptPart V) (keeps more : List K) (keep : K) → AllByRecursion (λ k. kept k ≡ new_kept) (keeps ++ keep ∷ more) → kept keep ≡ new_kept
new_among kept [] more keep h = h.0
new_among kept (k ∷ keeps) more keep h = new_among kept keeps more keep h.1

-- if each keep has the record of a new node, the views of the new stores are new views
pub views_new : {V K : Type 0} (kept : K → KeptPart V) (failures : K → ℕ) (keeps : List K) → AllByRecursion (λ keep. kept keep ≡ new_kept) keeps → views_of (new_stores kept failures keeps) ≡ new_views failures keeps
views_new kept failures [] h = refl
views_new {V} kept failures (keep ∷ keeps) h =
    ap (λ (x : KeptPart V). let p : StoreView V = record { kept = x; failures = failures keep; status = up; in_group = false } in p ∷ views_of (new_stores kept failures keeps)) h.0
    ∙ ap (λ (ps : List (StoreView V)). let p : StoreView V = record { kept = new_kept; failures = failures keep; status = up; in_group = false } in p ∷ ps) (views_new kept failures keeps h.1)

-- there are as many new stores as keeps
pub count_stores : {V K : Type 0} (kept : K → KeptPart V) (failures : K → ℕ) (keeps : List K) → length (new_stores kept failures keeps) ≡ length keeps
count_stores kept failures [] = refl
count_stores kept failures (keep ∷ keeps) = ap suc (count_stores kept failures keeps)

-- each new store is up, and its keep has the record of a new node
pub new_at : {V K : Type 0} (kept : K → KeptPart V) (failures : K → ℕ) (keeps : List K) → AllByRecursion (λ keep. kept keep ≡ new_kept) keeps → (k : ℕ) (store : StoreState V) → slice_get (new_stores kept failures keeps) k ≡ Some store
    → (store.kept ≡ new_kept) × (store.status ≡ up)
new_at kept failures [] h k store at = cc
new_at {V} kept failures (keep ∷ keeps) h zero store at =
    let first : StoreState V = record { kept = kept keep; failures = failures keep; status = up; in_group = false } in
    let same : first ≡ store = cc in
    (ap (λ (s : StoreState V). s.kept) (sym same) ∙ h.0, ap (λ (s : StoreState V). s.status) (sym same))
new_at kept failures (keep ∷ keeps) h (suc k) store at = new_at kept failures keeps h.1 k store at

-- at most one event is pending
pub few_staged : {V : Type 0} (x : Option (Event V)) → length (pending_events x) ≤ 1
few_staged None = omega arith
few_staged (Some x) = omega arith
