-- The marks of the essential steps, from the last step to the first.
use Rattle.steps.proofs.Words.{◌≡◌, ◌⊎◌, ℕ, zero, suc, ◌-◌, ◌<◌, ◌≤◌, Bool, true, false, List, [], ◌∷◌, length, replicate, get_or, slice_get, slice_set, Some, refl, sym, ◌∙◌, ap, subst, arith, inl, inr, length-set, length-replicate, get_or-set_same, slice_get_within, Database, AreBelow, no-mark, set_true, Step, premise_places, IsIn, IsEssential, is_last, is_taken, HasMark, mark_last, mark_each, MarksMore, AreMarkedFrom, AreMarks, below-get}

pub from-or-at : (p j : ℕ) → p ≤ j → (j ≡ p) ⊎ (suc p ≤ j)
from-or-at zero zero h = inl refl
from-or-at zero (suc j) h = inr (omega arith)
from-or-at (suc p) zero h = absurd (omega (arith, h))
from-or-at (suc p) (suc j) h = on (from-or-at p j (omega (arith, h)))
  where
    on : (j ≡ p) ⊎ (suc p ≤ j) → (suc j ≡ suc p) ⊎ (suc (suc p) ≤ suc j)
    on (inl e) = inl (ap suc e)
    on (inr l) = inr (omega (arith, l))

-- ---- a mark is set

set-only : (m : List Bool) (x k : ℕ) → HasMark (slice_set m x true) k → HasMark m k ⊎ (k ≡ x)
set-only [] x k h = inl h
set-only (b ∷ m) zero zero h = inr refl
set-only (b ∷ m) zero (suc k) h = inl h
set-only (b ∷ m) (suc x) zero h = inl h
set-only (b ∷ m) (suc x) (suc k) h = on (set-only m x k h)
  where
    on : HasMark m k ⊎ (k ≡ x) → HasMark m k ⊎ (suc k ≡ suc x)
    on (inl e) = inl e
    on (inr e) = inr (ap suc e)

-- ---- marks are set one after another

more-first : (x : ℕ) (ks : List ℕ) (m new : List Bool) → x < length m → MarksMore (slice_set m x true) new ks → MarksMore m new (x ∷ ks)
more-first x ks m new low more = record { count = more.count ∙ length-set m x true; each = λ k. (λ h. only k ((more.each k).0 h), λ o. (more.each k).1 (there k o)) }
  where
    marked : (k : ℕ) → HasMark m k ⊎ (k ≡ x) → HasMark m k ⊎ IsIn k (x ∷ ks)
    marked k (inl h) = inl h
    marked k (inr e) = inr (0, ap (λ v. Some v) (sym e))

    only : (k : ℕ) → HasMark (slice_set m x true) k ⊎ IsIn k ks → HasMark m k ⊎ IsIn k (x ∷ ks)
    only k (inl h) = marked k (set-only m x k h)
    only k (inr h) = inr (suc h.0, h.1)

    there : (k : ℕ) → HasMark m k ⊎ IsIn k (x ∷ ks) → HasMark (slice_set m x true) k ⊎ IsIn k ks
    there k (inl h) = inl (set_true m x k h)
    there k (inr (zero, e)) = let same : x ≡ k = cc in inl (subst (HasMark (slice_set m x true)) same (get_or-set_same m x true false low))
    there k (inr (suc i, e)) = inr (i, e)

pub each-more : (ks : List ℕ) (m : List Bool) → AreBelow (length m) ks → MarksMore m (mark_each ks m) ks
each-more [] m b = record { count = refl; each = λ k. (λ h. inl h, λ o. none k o) }
  where
    none : (k : ℕ) → HasMark m k ⊎ IsIn k [] → HasMark m k
    none k (inl h) = h
    none k (inr h) = let e = h.1 in cc
each-more (x ∷ ks) m b = more-first x ks m (mark_each ks (slice_set m x true)) b.0 (each-more ks (slice_set m x true) (subst (λ n. AreBelow n ks) (sym (length-set m x true)) b.1))

module _ (S : Database) (steps : List Step) where
  -- only the last step is marked at first
  marked-start : (marks : List Bool) → length marks ≡ length steps → ((k : ℕ) → HasMark marks k → length steps ≡ suc k) → ((k : ℕ) → length steps ≡ suc k → HasMark marks k) → AreMarkedFrom S steps (length steps) marks
  marked-start marks count only last = record {
    count = count;
    sound = λ k h. is_last (only k h);
    last = last;
    closed = λ j k step from h at in_it. (let l = slice_get_within steps j step at in absurd (omega (arith, l, from)));
  }

  -- if there are no steps, there are no marks
  marked-none : (marks : List Bool) → length steps ≡ 0 → marks ≡ replicate (length steps) false → AreMarkedFrom S steps (length steps) marks
  marked-none marks empty is = marked-start marks (ap length is ∙ length-replicate (length steps) false) (λ k h. absurd (bare k h)) (λ k e. absurd (omega (arith, empty, e)))
    where
      bare : (k : ℕ) → HasMark marks k → ⊥
      bare k h = let e : get_or marks k false ≡ false = ap (λ m. get_or m k false) is ∙ no-mark (length steps) k in cc

  abbrev none : List Bool
  none = replicate (length steps) false

  -- if there are steps, the last one alone is marked
  marked-one : (marks : List Bool) → 0 < length steps → marks ≡ slice_set (replicate (length steps) false) (length steps - 1) true → AreMarkedFrom S steps (length steps) marks
  marked-one marks some is = marked-start marks (ap length is ∙ (length-set none (length steps - 1) true ∙ length-replicate (length steps) false)) (λ k h. only k (set-only none (length steps - 1) k (ap (λ m. get_or m k false) (sym is) ∙ h))) last
    where
      only : (k : ℕ) → HasMark none k ⊎ (k ≡ length steps - 1) → length steps ≡ suc k
      only k (inl h) = let e = no-mark (length steps) k in cc
      only k (inr e) = omega (arith, some, e)

      last : (k : ℕ) → length steps ≡ suc k → HasMark marks k
      last k e =
          let at : k ≡ length steps - 1 = omega (arith, e) in
          let l = length-replicate (length steps) false in
          ap (λ m. get_or m k false) is ∙ (ap (λ i. get_or (slice_set none (length steps - 1) true) i false) at ∙ get_or-set_same none (length steps - 1) true false (omega (arith, l, some)))

  pub marked-last : (marks : List Bool) → marks ≡ mark_last (length steps) → AreMarkedFrom S steps (length steps) marks
  marked-last marks is = by (length steps) refl
    where
      by : (n : ℕ) → length steps ≡ n → AreMarkedFrom S steps (length steps) marks
      by zero e = marked-none marks e (is ∙ (ap mark_last e ∙ sym (ap (λ n. replicate n false) e)))
      by (suc n) e = marked-one marks (omega (arith, e)) is

  -- the step at p is not marked, so nothing is marked for it
  pub marked-over : (p : ℕ) (marks : List Bool) → AreMarkedFrom S steps (suc p) marks → get_or marks p false ≡ false → AreMarkedFrom S steps p marks
  marked-over p marks m none = record {
    count = m.count;
    sound = m.sound;
    last = m.last;
    closed = λ j k step from h at in_it. by j k step (from-or-at p j from) h at in_it;
  }
    where
      by : (j k : ℕ) (step : Step) → (j ≡ p) ⊎ (suc p ≤ j) → HasMark marks j → slice_get steps j ≡ Some step → IsIn k (premise_places S step) → HasMark marks k
      by j k step (inl e) h at in_it = let x : get_or marks p false ≡ true = ap (λ i. get_or marks i false) (sym e) ∙ h in cc
      by j k step (inr l) h at in_it = m.closed j k step l h at in_it

  -- the step at p is marked, and so are the steps that it takes for a `$e`
  pub marked-on : (p : ℕ) (step : Step) (old new : List Bool) → AreMarkedFrom S steps (suc p) old → HasMark old p → slice_get steps p ≡ Some step → AreBelow p (premise_places S step) → MarksMore old new (premise_places S step) → AreMarkedFrom S steps p new
  marked-on p step old new m here at low more = record {
    count = more.count ∙ m.count;
    sound = λ k h. sound k ((more.each k).0 h);
    last = λ k e. (more.each k).1 (inl (m.last k e));
    closed = λ j k s from h at' in_it. by j k s (from-or-at p j from) ((more.each j).0 h) at' in_it;
  }
    where
      sound : (k : ℕ) → HasMark old k ⊎ IsIn k (premise_places S step) → IsEssential S steps k
      sound k (inl h) = m.sound k h
      sound k (inr h) = is_taken p step (m.sound p here) at h

      by : (j k : ℕ) (s : Step) → (j ≡ p) ⊎ (suc p ≤ j) → HasMark old j ⊎ IsIn j (premise_places S step) → slice_get steps j ≡ Some s → IsIn k (premise_places S s) → HasMark new k
      by j k s (inl e) h at' in_it =
          let both : Some s ≡ Some step = sym at' ∙ (ap (slice_get steps) e ∙ at) in
          let same : s ≡ step = cc in
          (more.each k).1 (inr (subst (λ x. IsIn k (premise_places S x)) same in_it))
      by j k s (inr l) (inl h) at' in_it = (more.each k).1 (inl (m.closed j k s l h at' in_it))
      by j k s (inr l) (inr h) at' in_it = let x = below-get p (premise_places S step) h.0 j low h.1 in absurd (omega (arith, x, l))

  -- all steps were visited
  module _ (marks : List Bool) (m : AreMarkedFrom S steps 0 marks) where
    -- each essential step is marked
    reached : {k : ℕ} → IsEssential S steps k → HasMark marks k
    reached {k} (is_last e) = m.last k e
    reached {k} (is_taken j step is at in_it) = m.closed j k step (omega arith) (reached is) at in_it

    pub marks-exact : AreMarks S steps marks
    marks-exact = record { count = m.count; exact = λ k. (m.sound k, reached) }
