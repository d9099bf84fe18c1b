-- Where the judging of jobs ends: job by job, and at one place alone.
use Rattle.verify_pool.proofs.Words.{◌≡◌, ℕ, zero, suc, ◌+◌, ◌<◌, ◌≤◌, Bool, true, false, IsTrue, Option, Some, None, refl, sym, ◌∙◌, ap, subst, arith, inl, inr, below_more, cases_lt, cases_order, Metered, is_over, is_past, with_work, AllRight, Wrong, TooCostly, work_to, metered_to, IsRightTo, IsFirstWrong, IsFirstTooCostly, OneStop}
use Rattle.std.proofs.Common.{add_assoc, add-one, add-zero}
use Rattle.std.proofs.lemmas.Bool.Decides.{nat_tests}

clash : (b : Bool) → IsTrue b → b ≡ false → ⊥
clash true h e = cc
clash false h e = cc

-- a count that is not over the limit is not over it where it is less
not_over : (limit : Option ℕ) (a b : ℕ) → a ≤ b → is_over limit b ≡ false → is_over limit a ≡ false
not_over None a b less e = refl
not_over (Some limit) a b less e = grind (arith, nat_tests)

-- more jobs count no less
work-more : (works : ℕ → ℕ) (i k : ℕ) → i ≤ k → work_to works i ≤ work_to works k
work-more works zero zero less = omega arith
work-more works (suc i) zero less = absurd (omega (arith, less))
work-more works i (suc k) less =
    elim (cases_lt i (suc k)) as (λ _. work_to works i ≤ work_to works (suc k)) [
      | inl before ↦ let h = work-more works i k (omega (arith, before)) in omega arith
      | inr same ↦ let e : i ≡ suc k = omega (arith, less, same) in subst (λ n. work_to works i ≤ work_to works n) e (omega arith)
    ]

-- nothing more was counted
pub with-none : (m : Metered) → with_work m 0 ≡ m
with-none m = ap (λ (n : ℕ). record { count = n; limit = m.limit }) (add-zero m.count)

module _ (right : ℕ → Type 0) (works : ℕ → ℕ) (m : Metered) where
  -- up to fewer jobs the meter is not past its limit either
  before-past : (i k : ℕ) → i ≤ k → is_past (metered_to works k m) ≡ false → is_past (metered_to works i m) ≡ false
  before-past i k less e = let h = work-more works i k less in not_over m.limit (m.count + work_to works i) (m.count + work_to works k) (omega (arith, h)) e

  -- where nothing was judged
  pub at_start : is_past m ≡ false → IsRightTo right works 0 m
  at_start e = record { each = λ i less. absurd (omega (arith, less)); within = ap is_past (with-none m) ∙ e }

  -- the work of one job more
  pub more : (k : ℕ) (m1 m2 : Metered) → m1 ≡ metered_to works k m → m2 ≡ with_work m1 (works k) → m2 ≡ metered_to works (suc k) m
  more k m1 m2 e f = f ∙ ap (λ n. with_work n (works k)) e ∙ ap (λ (n : ℕ). record { count = n; limit = m.limit }) (add_assoc m.count (work_to works k) (works k))

  -- one right job more
  pub goes_on : (k : ℕ) (m1 m2 : Metered) → IsRightTo right works k m → m1 ≡ metered_to works k m → right k → m2 ≡ with_work m1 (works k) → is_past m2 ≡ false
      → IsRightTo right works (k + 1) m × (m2 ≡ metered_to works (k + 1) m)
  goes_on k m1 m2 before e here f within =
      let next = more k m1 m2 e f in
      subst (λ n. IsRightTo right works n m × (m2 ≡ metered_to works n m)) (sym (add-one k))
      (record { each = λ i less. below_more right k before.each here i (omega (arith, less)); within = ap is_past (sym next) ∙ within }, next)

  -- the meter is past its limit with job k, and not up to more jobs
  never : (i k : ℕ) → i < k → IsTrue (is_past (metered_to works (suc i) m)) → is_past (metered_to works k m) ≡ false → ⊥
  never i k less past within = clash (is_past (metered_to works (suc i) m)) past (before-past (suc i) k (omega (arith, less)) within)

  -- a job that is not right does not stop before one that is too costly, or at it, or behind it
  wrong_or_costly : (count i j : ℕ) → IsFirstWrong right works count i m → IsFirstTooCostly right works count j m → ⊥
  wrong_or_costly count i j p q =
      elim (cases_lt i j) [
        | inl less ↦ p.wrong (q.before.each i less)
        | inr more ↦ never j (suc i) (omega (arith, more)) q.past p.within
      ]

-- two outcomes are equal, since neither can be before the other
pub one_stop : (right : ℕ → Type 0) (works : ℕ → ℕ) (count : ℕ) → OneStop right works count
one_stop right works count m _ _ AllRight AllRight p q = refl
one_stop right works count m _ _ AllRight (Wrong k) p q = absurd (q.0.wrong (p.0.each k q.0.stands))
one_stop right works count m _ _ AllRight (TooCostly k) p q = absurd (never right works m k count q.stands q.past p.0.within)
one_stop right works count m _ _ (Wrong k) AllRight p q = absurd (p.0.wrong (q.0.each k p.0.stands))
one_stop right works count m _ _ (Wrong i) (Wrong j) p q =
    elim (cases_order i j) as (λ _. Wrong i ≡ Wrong j) [
      | inl e ↦ ap Wrong e
      | inr (inl less) ↦ absurd (p.0.wrong (q.0.before.each i less))
      | inr (inr less) ↦ absurd (q.0.wrong (p.0.before.each j less))
    ]
one_stop right works count m _ _ (Wrong i) (TooCostly j) p q = absurd (wrong_or_costly right works m count i j p.0 q)
one_stop right works count m _ _ (TooCostly k) AllRight p q = absurd (never right works m k count p.stands p.past q.0.within)
one_stop right works count m _ _ (TooCostly i) (Wrong j) p q = absurd (wrong_or_costly right works m count j i q.0 p)
one_stop right works count m _ _ (TooCostly i) (TooCostly j) p q =
    elim (cases_order i j) as (λ _. TooCostly i ≡ TooCostly j) [
      | inl e ↦ ap TooCostly e
      | inr (inl less) ↦ absurd (never right works m i j less p.past q.before.within)
      | inr (inr less) ↦ absurd (never right works m j i less q.past p.before.within)
    ]
