-- Properties of the steps of any items.
use Rattle.steps.proofs.Words.{◌≡◌, ℕ, zero, suc, ◌-◌, ◌<◌, ◌⊎◌, List, [], ◌∷◌, ◌++◌, length, slice_get, Some, refl, sym, ◌∙◌, ap, subst, arith, length-append, inl, inr, slice_get_within, Name, Database, AreBelow, Item, Cite, Recall, Mark, below-get, Step, Progress, progress, IsPlaced, was_there, is_appended, IsStepOf, of_hypothesis, of_assertion, RecordsItem, RecordsItems, AreSteps, below-push, below-more, get-last}
use Rattle.steps.proofs.DraftRowLemmas.{some-front, some-more}

pub record IsSound (p : Progress) : Type 0 where
  pub stack_below : AreBelow (length p.steps) p.stack
  pub saved_below : AreBelow (length p.steps) p.saved
  pub ordered : (k : ℕ) (step : Step) → slice_get p.steps k ≡ Some step → AreBelow k step.taken
  pub once : (j k : ℕ) (step : Step) → slice_get p.steps j ≡ Some step → slice_get p.steps k ≡ Some step → j ≡ k
  pub last : (n : ℕ) → length p.steps ≡ suc n → (i : ℕ) × (slice_get p.stack i ≡ Some n)

pub below-split : (n : ℕ) (xs ys : List ℕ) → AreBelow n (xs ++ ys) → AreBelow n xs × AreBelow n ys
below-split n [] ys b = (tt, b)
below-split n (x ∷ xs) ys b = let r = below-split n xs ys b.1 in ((b.0, r.0), r.1)

-- an element of two lists together is one of the first at its index, or one of the second
some-split : (xs ys : List ℕ) (k x : ℕ) → slice_get (xs ++ ys) k ≡ Some x → (slice_get xs k ≡ Some x) ⊎ ((j : ℕ) × (slice_get ys j ≡ Some x))
some-split [] ys k x h = inr (k, h)
some-split (y ∷ xs) ys zero x h = inl h
some-split (y ∷ xs) ys (suc k) x h = some-split xs ys k x h

-- ---- a citation

module _ (p q : Progress) (is : IsSound p) (below : List ℕ) (step : Step) (n : ℕ) (low : AreBelow (length p.steps) below) (low_taken : AreBelow (length p.steps) step.taken)
    (waits : (k x : ℕ) → slice_get p.stack k ≡ Some x → (slice_get below k ≡ Some x) ⊎ ((j : ℕ) × (slice_get step.taken j ≡ Some x))) (stack : q.stack ≡ below ++ n ∷ []) (saved : q.saved ≡ p.saved) where
  -- after a step that was there already is placed, the properties hold
  stood : slice_get p.steps n ≡ Some step → q.steps ≡ p.steps → IsSound q
  stood h same = record {
    stack_below = subst (λ s. AreBelow (length s) q.stack) (sym same) (subst (AreBelow (length p.steps)) (sym stack) (below-push (length p.steps) below n low (slice_get_within p.steps n step h)));
    saved_below = subst (λ s. AreBelow (length s) q.saved) (sym same) (subst (AreBelow (length p.steps)) (sym saved) is.saved_below);
    ordered = λ k s e. is.ordered k s (ap (λ v. slice_get v k) (sym same) ∙ e);
    once = λ j k s e f. is.once j k s (ap (λ v. slice_get v j) (sym same) ∙ e) (ap (λ v. slice_get v k) (sym same) ∙ f);
    last = λ m e. there m (ap length (sym same) ∙ e);
  }
    where
      there : (m : ℕ) → length p.steps ≡ suc m → (i : ℕ) × (slice_get q.stack i ≡ Some m)
      there m e = let r = is.last m e in by (waits r.0 m r.1)
        where
          by : (slice_get below (is.last m e).0 ≡ Some m) ⊎ ((j : ℕ) × (slice_get step.taken j ≡ Some m)) → (i : ℕ) × (slice_get q.stack i ≡ Some m)
          by (inl b) = ((is.last m e).0, ap (λ v. slice_get v (is.last m e).0) stack ∙ some-more below n (is.last m e).0 m b)
          by (inr t) =
              let x = below-get n step.taken t.0 m (is.ordered n step h) t.1 in
              let y = slice_get_within p.steps n step h in
              absurd (omega (arith, x, y, e))

  -- after a new step is appended, the properties hold
  added : ((k : ℕ) → slice_get p.steps k ≡ Some step → ⊥) → n ≡ length p.steps → q.steps ≡ p.steps ++ step ∷ [] → IsSound q
  added fresh place more =
      let len : length q.steps ≡ suc (length p.steps) = (let l = length-append p.steps (step ∷ []) in let m = ap length more in omega (arith, l, m)) in
      record {
        stack_below = subst (AreBelow (length q.steps)) (sym stack) (below-push (length q.steps) below n (below-more _ _ below (omega (arith, len)) low) (omega (arith, len, place)));
        saved_below = subst (AreBelow (length q.steps)) (sym saved) (below-more _ _ p.saved (omega (arith, len)) is.saved_below);
        ordered = λ k s e. ordered k s (some-front p.steps step k s (ap (λ v. slice_get v k) (sym more) ∙ e));
        once = λ j k s e f. once j k s (some-front p.steps step j s (ap (λ v. slice_get v j) (sym more) ∙ e)) (some-front p.steps step k s (ap (λ v. slice_get v k) (sym more) ∙ f));
        last = λ m e. (length below, ap (λ v. slice_get v (length below)) stack ∙ (get-last below n ∙ ap Some (let r : n ≡ m = omega (arith, len, place, e) in r)));
      }
    where
      ordered : (k : ℕ) (s : Step) → (slice_get p.steps k ≡ Some s) ⊎ ((k ≡ length p.steps) × (s ≡ step)) → AreBelow k s.taken
      ordered k s (inl e) = is.ordered k s e
      ordered k s (inr (e, same)) = subst (λ v. AreBelow k v.taken) (sym same) (subst (λ v. AreBelow v step.taken) (sym e) low_taken)

      once : (j k : ℕ) (s : Step) → (slice_get p.steps j ≡ Some s) ⊎ ((j ≡ length p.steps) × (s ≡ step)) → (slice_get p.steps k ≡ Some s) ⊎ ((k ≡ length p.steps) × (s ≡ step)) → j ≡ k
      once j k s (inl e) (inl f) = is.once j k s e f
      once j k s (inl e) (inr (f, same)) = absurd (fresh j (e ∙ ap Some same))
      once j k s (inr (e, same)) (inl f) = absurd (fresh k (f ∙ ap Some same))
      once j k s (inr (e, same)) (inr (f, same')) = e ∙ sym f

  -- after a step is placed, either way, the properties hold
  pub cited : IsPlaced p.steps step q.steps n → IsSound q
  cited (was_there h same) = stood h same
  cited (is_appended fresh place more) = added fresh place more

module _ (S : Database) (at : ℕ) where
  -- after a citation the properties hold
  cites : (p q : Progress) (label : Name) → IsSound p → RecordsItem S at p (Cite label) q → IsSound q
  cites p q label is (below, step, n, makes, placed, stack, saved) = by makes
    where
      by : IsStepOf S at label p.stack below step → IsSound q
      by (of_hypothesis s carries active none whole) =
          cited p q is below step n (subst (AreBelow (length p.steps)) whole is.stack_below) (subst (AreBelow (length p.steps)) (sym none) tt) (λ k x h. inl (ap (λ v. slice_get v k) (sym whole) ∙ h)) stack saved placed
      by (of_assertion s carries citable many whole) =
          let b = below-split (length p.steps) below step.taken (subst (AreBelow (length p.steps)) whole is.stack_below) in
          cited p q is below step n b.0 b.1 (λ k x h. some-split below step.taken k x (ap (λ v. slice_get v k) (sym whole) ∙ h)) stack saved placed

  -- after a recall the properties hold
  recalls : (p : Progress) (n : ℕ) → IsSound p → n < length p.steps → IsSound (progress p.steps (p.stack ++ n ∷ []) p.saved)
  recalls p n is low = record {
    stack_below = below-push (length p.steps) p.stack n is.stack_below low;
    saved_below = is.saved_below;
    ordered = is.ordered;
    once = is.once;
    last = λ m e. let r = is.last m e in (r.0, some-more p.stack n r.0 m r.1);
  }

  -- after a mark the properties hold
  marks : (p : Progress) (n : ℕ) → IsSound p → n < length p.steps → IsSound (progress p.steps p.stack (p.saved ++ n ∷ []))
  marks p n is low = record {
    stack_below = is.stack_below;
    saved_below = below-push (length p.steps) p.saved n is.saved_below low;
    ordered = is.ordered;
    once = is.once;
    last = is.last;
  }

  pub record_item-sound : (p q : Progress) (item : Item) → IsSound p → RecordsItem S at p item q → IsSound q
  record_item-sound p q (Cite label) is h = cites p q label is h
  record_item-sound p q (Recall zero) is h = absurd h.1
  record_item-sound p q (Recall (suc k)) is h = subst IsSound (sym h.2) (recalls p h.0 is (below-get (length p.steps) p.saved k h.0 is.saved_below h.1))
  record_item-sound p q Mark is h = subst IsSound (sym h.3) (marks p h.1 is (below-split (length p.steps) h.0 (h.1 ∷ []) (subst (AreBelow (length p.steps)) h.2 is.stack_below)).1.0)

  pub records-sound : (items : List Item) (p q : Progress) → IsSound p → RecordsItems S at p items q → IsSound q
  records-sound [] p q is h = subst IsSound h is
  records-sound (item ∷ items) p q is h = records-sound items h.0 q (record_item-sound p h.0 item is h.1) h.2

  pub records-snoc : (items : List Item) (item : Item) (p q r : Progress) → RecordsItems S at p items q → RecordsItem S at q item r → RecordsItems S at p (items ++ item ∷ []) r
  records-snoc [] item p q r h n = (r, subst (λ v. RecordsItem S at v item r) (sym h) n, refl)
  records-snoc (i ∷ items) item p q r h n = (h.0, h.1, records-snoc items item h.0 q r h.2 n)

pub nothing-sound : IsSound (progress [] [] [])
nothing-sound = record { stack_below = tt; saved_below = tt; ordered = λ k s e. (let x = e in cc); once = λ j k s e f. (let x = e in cc); last = λ n e. absurd (omega (arith, e)) }

-- if one result is left, it is that of the last step
pub last_place-last : (p : Progress) (n : ℕ) → IsSound p → p.stack ≡ n ∷ [] → length p.steps ≡ suc n
last_place-last p n is one =
    let low = (subst (AreBelow (length p.steps)) one is.stack_below).0 in
    let e : length p.steps ≡ suc (length p.steps - 1) = omega (arith, low) in
    let r = is.last (length p.steps - 1) e in
    e ∙ ap suc (only r.0 n (length p.steps - 1) (ap (λ v. slice_get v r.0) (sym one) ∙ r.1))
  where
    only : (i n m : ℕ) → slice_get (n ∷ []) i ≡ Some m → m ≡ n
    only zero n m h = let e : n ≡ m = cc in sym e
    only (suc i) n m h = cc

pub steps-sound : (S : Database) (at : ℕ) (items : List Item) (steps : List Step) (are : AreSteps S at items steps) → IsSound (progress steps are.end.stack are.end.saved)
steps-sound S at items steps are =
    subst (λ s. IsSound (progress s are.end.stack are.end.saved)) are.same (records-sound S at items (progress [] [] []) are.end nothing-sound are.recorded)
