-- New cells, one by one.
use Rattle.cluster.proofs.Words.{◌≡◌, ℕ, zero, suc, ◌+◌, ◌<◌, List, [], ◌∷◌, ◌++◌, length, take, slice_get, Option, Some, refl, ap, sym, ◌∙◌, subst, arith, add-one, le_of_suc-le-suc, log_after, SwitchView, StoreView, KeptPart, AreResumedStores, new_views, world_of, Carried, carried_size, Cell, new_cell, Belongs, EachBelongs, new_cells}

new_cells-take : (limit : Option ℕ) (k i : ℕ) (ws : List ℕ) → i < length ws → new_cells limit k (take (suc i) ws) ≡ new_cells limit k (take i ws) ++ new_cell limit (k + i) ∷ []
new_cells-take limit k i [] h = absurd (omega arith)
new_cells-take limit k zero (w ∷ ws) h = let e : k ≡ k + 0 = omega arith in ap (λ (j : ℕ). let cs : List Cell = new_cell limit j ∷ [] in cs) e
new_cells-take limit k (suc i) (w ∷ ws) h =
    let e : suc k + i ≡ k + suc i = omega arith in
    ap (λ (cs : List Cell). new_cell limit k ∷ cs) (new_cells-take limit (suc k) i ws (le_of_suc-le-suc h) ∙ ap (λ (j : ℕ). new_cells limit (suc k) (take i ws) ++ new_cell limit j ∷ []) e)

pub new_cells-push : (limit : Option ℕ) (ws : List ℕ) (k : ℕ) (old new : List Cell) → new ≡ old ++ new_cell limit k ∷ [] → old ≡ new_cells limit 0 (take k ws) → k < length ws → new ≡ new_cells limit 0 (take (k + 1) ws)
new_cells-push limit ws k old new pushed before low =
    let z : k ≡ 0 + k = omega arith in
    pushed ∙ ap (λ (cs : List Cell). cs ++ new_cell limit k ∷ []) before ∙ ap (λ (j : ℕ). new_cells limit 0 (take k ws) ++ new_cell limit j ∷ []) z
    ∙ sym (new_cells-take limit 0 k ws low) ∙ ap (λ (i : ℕ). new_cells limit 0 (take i ws)) (sym (add-one k))

-- Each of them belongs to a switch with as many nodes.

-- the new cell at index k has the number j + k, and there is a weight at this index
new_cell_at : (limit : Option ℕ) (j k : ℕ) (ws : List ℕ) (c : Cell) → slice_get (new_cells limit j ws) k ≡ Some c → (c ≡ new_cell limit (j + k)) × (k < length ws)
new_cell_at limit j k [] c at = cc
new_cell_at limit j zero (w ∷ ws) c at = let same : new_cell limit j ≡ c = cc in let e : j ≡ j + 0 = omega arith in (sym same ∙ ap (λ (i : ℕ). new_cell limit i) e, omega arith)
new_cell_at limit j (suc k) (w ∷ ws) c at =
    let rest = new_cell_at limit (suc j) k ws c at in
    let e : suc j + k ≡ j + suc k = omega arith in
    (rest.0 ∙ ap (λ (i : ℕ). new_cell limit i) e, let low = rest.1 in omega (arith, low))

-- there are as many new views as keeps
pub count_new_views : (V : Type 0) {K : Type 0} (failures : K → ℕ) (keeps : List K) → length (new_views {V = V} failures keeps) ≡ length keeps
count_new_views V failures [] = refl
count_new_views V failures (keep ∷ keeps) = ap suc (count_new_views V failures keeps)

-- there are as many stores of nodes that begin with the records of keeps as keeps
pub count_resumed : (V : Type 0) {K : Type 0} (kept : K → KeptPart V) (failures : K → ℕ) (keeps : List K) (begins : List (KeptPart V)) (views : List (StoreView V)) → AreResumedStores kept failures keeps begins views → length views ≡ length keeps
count_resumed V kept failures [] [] [] h = refl
count_resumed V kept failures (keep ∷ keeps) (begun ∷ begins) (view ∷ views) h = ap suc (count_resumed V kept failures keeps begins views h.1)
count_resumed V kept failures [] (begun ∷ begins) views h = elim h [ ]
count_resumed V kept failures [] [] (view ∷ views) h = elim h [ ]
count_resumed V kept failures (keep ∷ keeps) [] views h = elim h [ ]
count_resumed V kept failures (keep ∷ keeps) (begun ∷ begins) [] h = elim h [ ]

-- each new cell belongs to a switch with as many nodes, since it has no entries yet
pub new_belong : (limit : Option ℕ) (ws : List ℕ) (cells : List Cell) (switch : SwitchView Carried) → cells ≡ new_cells limit 0 ws → length switch.stores ≡ length ws → EachBelongs cells switch
new_belong limit ws cells switch are count k c at =
    let is = new_cell_at limit 0 k ws c (ap (λ (cs : List Cell). slice_get cs k) (sym are) ∙ at) in
    subst (λ (x : Cell). Belongs x switch) (sym is.0) record {
      node = let low = is.1 in omega (arith, low, count);
      begins = (log_after (world_of carried_size switch) (0 + k), refl);
    }
