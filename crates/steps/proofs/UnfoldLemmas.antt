-- The last of the steps of a list of items unfolds to the derivation that the items spell.
use Rattle.steps.proofs.Words.{◌≡◌, ℕ, zero, suc, ◌+◌, ◌-◌, ◌<◌, Bool, true, false, if◌then◌else◌, List, [], ◌∷◌, ◌++◌, length, map, slice_get, Some, refl, sym, ◌∙◌, ap, subst, arith, length-append, length-map, map_push, map-append, map-at, Name, Stmt, Database, stmt_at, is_assertion, AreBelow, IsHypothesis, HasLabelsOnce, Item, Cite, Recall, Mark, Derivation, hyp, apply, from_list, Trees, trees, a_hypothesis, an_assertion, Grows, GrowsBy, pick, IsRight, Derives, not_both, leaves, map-pick, trees-same, get-front, Step, Progress, progress, IsPlaced, was_there, is_appended, IsStepOf, of_hypothesis, of_assertion, RecordsItem, RecordsItems, AreSteps, has_assertion, citation_over, unfolded_after, unfolded, last_unfolded}
use Rattle.frame.proofs.PositionLemmas.{get-last}
use Rattle.steps.proofs.SoundLemmas.{IsSound, record_item-sound, nothing-sound, below-split}

module _ (S : Database) where
  -- ---- a list of steps, one by one

  citation-same : (ts us : List Derivation) (step : Step) → map (pick ts) step.taken ≡ map (pick us) step.taken → citation_over S ts step ≡ citation_over S us step
  citation-same ts us step e = ap (λ ks. if has_assertion (stmt_at S step.position) then apply step.position (from_list ks) else hyp step.position) e

  after-snoc : (ts : List Derivation) (steps : List Step) (step : Step) → unfolded_after S ts (steps ++ step ∷ []) ≡ unfolded_after S ts steps ++ citation_over S (unfolded_after S ts steps) step ∷ []
  after-snoc ts [] step = refl
  after-snoc ts (s ∷ steps) step = after-snoc (ts ++ citation_over S ts s ∷ []) steps step

  after-length : (ts : List Derivation) (steps : List Step) → length (unfolded_after S ts steps) ≡ length ts + length steps
  after-length ts [] = omega arith
  after-length ts (s ∷ steps) =
      let r = after-length (ts ++ citation_over S ts s ∷ []) steps in
      let l = length-append ts (citation_over S ts s ∷ []) in
      omega (arith, r, l)

  unfolded-length : (steps : List Step) → length (unfolded S steps) ≡ length steps
  unfolded-length steps = let r = after-length [] steps in omega (arith, r)

  -- the derivations before those of these steps stay
  front-kept : (ts : List Derivation) (steps : List Step) (k : ℕ) → k < length ts → pick (unfolded_after S ts steps) k ≡ pick ts k
  front-kept ts [] k l = refl
  front-kept ts (s ∷ steps) k l =
      let m = length-append ts (citation_over S ts s ∷ []) in
      front-kept (ts ++ citation_over S ts s ∷ []) steps k (omega (arith, l, m)) ∙ get-front ts (citation_over S ts s ∷ []) k (hyp 0) l

  fronts-kept : (ts : List Derivation) (steps : List Step) (ks : List ℕ) → AreBelow (length ts) ks → map (pick (unfolded_after S ts steps)) ks ≡ map (pick ts) ks
  fronts-kept ts steps [] b = refl
  fronts-kept ts steps (k ∷ ks) b = ap (λ t. t ∷ map (pick (unfolded_after S ts steps)) ks) (front-kept ts steps k b.0) ∙ ap (λ r. pick ts k ∷ r) (fronts-kept ts steps ks b.1)

  -- the derivation of a step is its citation, applied to the derivations of the steps that it takes
  after-at : (ts : List Derivation) (steps : List Step) (n : ℕ) (step : Step) → slice_get steps n ≡ Some step → AreBelow (length ts + n) step.taken
      → pick (unfolded_after S ts steps) (length ts + n) ≡ citation_over S (unfolded_after S ts steps) step
  after-at ts [] n step h b = cc
  after-at ts (s ∷ steps) zero step h b =
      let same : s ≡ step = cc in
      let t = citation_over S ts s in
      let e : length ts + 0 ≡ length ts = omega arith in
      let m = length-append ts (t ∷ []) in
      let low : AreBelow (length ts) step.taken = subst (λ k. AreBelow k step.taken) e b in
      ap (pick (unfolded_after S (ts ++ t ∷ []) steps)) e
      ∙ (front-kept (ts ++ t ∷ []) steps (length ts) (omega (arith, m))
      ∙ (get-last ts t (length ts) (hyp 0) refl
      ∙ (ap (citation_over S ts) same
      ∙ citation-same ts (unfolded_after S ts (s ∷ steps)) step (sym (fronts-kept ts (s ∷ steps) step.taken low)))))
  after-at ts (s ∷ steps) (suc n) step h b =
      let t = citation_over S ts s in
      let m = length-append ts (t ∷ []) in
      let e : length (ts ++ t ∷ []) + n ≡ length ts + suc n = omega (arith, m) in
      ap (pick (unfolded_after S (ts ++ t ∷ []) steps)) (sym e)
      ∙ after-at (ts ++ t ∷ []) steps n step h (subst (λ k. AreBelow k step.taken) (sym e) b)

  unfolded-at : (steps : List Step) (n : ℕ) (step : Step) → slice_get steps n ≡ Some step → AreBelow n step.taken → pick (unfolded S steps) n ≡ citation_over S (unfolded S steps) step
  unfolded-at steps n step h b = let e : 0 + n ≡ n = omega arith in ap (pick (unfolded S steps)) (sym e) ∙ after-at [] steps n step h (subst (λ k. AreBelow k step.taken) (sym e) b)

  -- ---- a machine over derivations takes the items that are recorded

  abbrev seen : Progress → Trees
  seen p = trees (map (pick (unfolded S p.steps)) p.stack) (map (pick (unfolded S p.steps)) p.saved)

  -- after a citation, the derivation of its step is on top of those below
  cites-over : (p q : Progress) (below : List ℕ) (step : Step) (n : ℕ) → IsSound p → AreBelow (length p.steps) below → IsPlaced p.steps step q.steps n → q.stack ≡ below ++ n ∷ [] → q.saved ≡ p.saved
      → seen q ≡ trees (map (pick (unfolded S p.steps)) below ++ citation_over S (unfolded S p.steps) step ∷ []) (map (pick (unfolded S p.steps)) p.saved)
  cites-over p q below step n is low (was_there h same) stack saved =
      let us = unfolded S p.steps in
      ap (λ s. trees (map (pick (unfolded S s)) q.stack) (map (pick (unfolded S s)) q.saved)) same
      ∙ trees-same _ _ _ _
      (ap (map (pick us)) stack ∙ (map_push (pick us) below n ∙ ap (λ t. map (pick us) below ++ t ∷ []) (unfolded-at p.steps n step h (is.ordered n step h))))
      (ap (map (pick us)) saved)
  cites-over p q below step n is low (is_appended fresh place more) stack saved =
      let us = unfolded S p.steps in
      let t = citation_over S us step in
      let len : length us ≡ length p.steps = unfolded-length p.steps in
      let grown : unfolded S q.steps ≡ us ++ t ∷ [] = ap (unfolded S) more ∙ after-snoc [] p.steps step in
      ap (λ vs. trees (map (pick vs) q.stack) (map (pick vs) q.saved)) grown
      ∙ trees-same _ _ _ _
      (ap (map (pick (us ++ t ∷ []))) stack
      ∙ (map_push (pick (us ++ t ∷ [])) below n
      ∙ (ap (λ r. r ++ pick (us ++ t ∷ []) n ∷ []) (map-pick us (t ∷ []) below (subst (λ k. AreBelow k below) (sym len) low))
      ∙ ap (λ x. map (pick us) below ++ x ∷ []) (get-last us t n (hyp 0) (place ∙ sym len)))))
      (ap (map (pick (us ++ t ∷ []))) saved ∙ map-pick us (t ∷ []) p.saved (subst (λ k. AreBelow k p.saved) (sym len) is.saved_below))

  module _ (at : ℕ) where
    cite-grows : (p q : Progress) (label : Name) → IsSound p → RecordsItem S at p (Cite label) q → Grows S at (seen p) (Cite label) (seen q)
    cite-grows p q label is (below, step, n, makes, placed, stack, saved) = by makes
      where
        low : p.stack ≡ below ++ step.taken → AreBelow (length p.steps) below
        low whole = (below-split (length p.steps) below step.taken (subst (AreBelow (length p.steps)) whole is.stack_below)).0

        other : (s : Stmt) → IsHypothesis S at step.position s → (b : Bool) → is_assertion s ≡ b → b ≡ false
        other s active true e = absurd (not_both s active.kind e)
        other s active false e = refl

        by : IsStepOf S at label p.stack below step → Grows S at (seen p) (Cite label) (seen q)
        by (of_hypothesis s carries active none whole) =
            let over : citation_over S (unfolded S p.steps) step ≡ hyp step.position =
            ap (λ o. if has_assertion o then apply step.position (from_list (map (pick (unfolded S p.steps)) step.taken)) else hyp step.position) active.stands
            ∙ ap (λ b. if b then apply step.position (from_list (map (pick (unfolded S p.steps)) step.taken)) else hyp step.position) (other s active (is_assertion s) refl) in (
              map (pick (unfolded S p.steps)) below,
              citation_over S (unfolded S p.steps) step,
              a_hypothesis step.position s carries active over (ap (map (pick (unfolded S p.steps))) whole),
              cites-over p q below step n is (subst (AreBelow (length p.steps)) whole is.stack_below) placed stack saved,
            )
        by (of_assertion s carries citable many whole) =
            let over : citation_over S (unfolded S p.steps) step ≡ apply step.position (from_list (map (pick (unfolded S p.steps)) step.taken)) =
            ap (λ o. if has_assertion o then apply step.position (from_list (map (pick (unfolded S p.steps)) step.taken)) else hyp step.position) carries.stands
            ∙ ap (λ b. if b then apply step.position (from_list (map (pick (unfolded S p.steps)) step.taken)) else hyp step.position) citable.assertion in (
              map (pick (unfolded S p.steps)) below,
              citation_over S (unfolded S p.steps) step,
              an_assertion step.position s (map (pick (unfolded S p.steps)) step.taken) carries citable (length-map step.taken (pick (unfolded S p.steps)) ∙ many) (ap (map (pick (unfolded S p.steps))) whole ∙ map-append (pick (unfolded S p.steps)) below step.taken) over,
              cites-over p q below step n is (low whole) placed stack saved,
            )

    record_item-grows : (p q : Progress) (item : Item) → IsSound p → RecordsItem S at p item q → Grows S at (seen p) item (seen q)
    record_item-grows p q (Cite label) is h = cite-grows p q label is h
    record_item-grows p q (Recall zero) is h = absurd h.1
    record_item-grows p q (Recall (suc k)) is h =
        let us = unfolded S p.steps in (
          pick us h.0,
          map-at (pick us) p.saved k h.0 h.1,
          ap seen h.2 ∙ ap (λ s. trees s (map (pick us) p.saved)) (map_push (pick us) p.stack h.0),
        )
    record_item-grows p q Mark is h =
        let us = unfolded S p.steps in (
          map (pick us) h.0,
          pick us h.1,
          ap (map (pick us)) h.2 ∙ map_push (pick us) h.0 h.1,
          ap seen h.3 ∙ ap (trees (map (pick us) p.stack)) (map_push (pick us) p.saved h.1),
        )

    records-grow : (items : List Item) (p q : Progress) → IsSound p → RecordsItems S at p items q → GrowsBy S at (seen p) items (seen q)
    records-grow [] p q is h = ap seen h
    records-grow (item ∷ items) p q is h = (seen h.0, record_item-grows p h.0 item is h.1, records-grow items h.0 q (record_item-sound S at p h.0 item is h.1) h.2)

    -- the last step unfolds to the derivation that the items spell
    pub unfolds : HasLabelsOnce S → (items : List Item) (steps : List Step) → IsRight S at items → AreSteps S at items steps → Derives S at items (last_unfolded S steps)
    unfolds once items steps right are =
        let left = leaves S at once items (seen are.end) right (records-grow items (progress [] [] []) are.end nothing-sound are.recorded) in
        let one : map (pick (unfolded S are.end.steps)) (are.last_place ∷ []) ≡ left.0 ∷ [] = ap (map (pick (unfolded S are.end.steps))) (sym are.one) ∙ left.2 in
        let top : pick (unfolded S are.end.steps) are.last_place ≡ left.0 = cc in
        let last : length steps - 1 ≡ are.last_place = (let l = are.last in omega (arith, l)) in
        let whole : last_unfolded S steps ≡ left.0 = ap (pick (unfolded S steps)) last ∙ (ap (λ s. pick (unfolded S s) are.last_place) (sym are.same) ∙ top) in
        subst (Derives S at items) (sym whole) left.1
