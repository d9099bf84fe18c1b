-- The first job that is not right, by index and by job; there is at most one answer.
use Rattle.verify_pool.proofs.Words.{◌≡◌, ℕ, zero, suc, ◌<◌, List, [], ◌∷◌, length, slice_get, Some, None, Result, Ok, Err, IfOk, arith, sym, subst, refl, ◌∙◌, same_Some, slice_get_within, Database, IsAnswerTo, Job, IsRightJob, IsRightAt, IsFirstWrongJob, OneAnswer, inl, inr, ap, cases_order, Metered, true, false, is_over, is_past, metered_to, IsTrue, ◌+◌, work_to, IsFirstTooCostly, IsFirstWrong, IsRightTo}
use Rattle.std.proofs.Common.{true≢false}
use Rattle.verify.specs.Counted.{HasCountedAnswer}
use Rattle.verify.specs.Right.{IsAnswerIfAny}
use Rattle.verify.specs.declared.answer.Answer.{Answer}
use Rattle.verify.specs.declared.answer.Answer.TheVariants.{Proved, Wrong, TooCostly}
use Rattle.verify_pool.proofs.FirstStopLemmas.{with-none}

-- an index below the length has an element
get_there : {X : Type 0} (xs : List X) (k : ℕ) → k < length xs → (x : X) × (slice_get xs k ≡ Some x)
get_there [] k less = absurd (omega (arith, less))
get_there (x ∷ xs) zero less = (x, refl)
get_there (x ∷ xs) (suc k) less = get_there xs k (omega (arith, less))

module _ (S : Database) (jobs : List Job) where
  -- the index of a right job is right
  there_right : (k : ℕ) (job : Job) → slice_get jobs k ≡ Some job → IsRightJob S job → IsRightAt S jobs k
  there_right k job stands right other e = subst (IsRightJob S) (same_Some job other (sym stands ∙ e)) right

  -- an answer on a job is an answer on its index
  pub job_judged : {E : Type 0} (k : ℕ) (job : Job) (r : Result Answer E) → slice_get jobs k ≡ Some job
      → IfOk r (λ answer. IsAnswerTo answer (IsRightJob S job)) → IfOk r (λ answer. IsAnswerIfAny answer (IsRightAt S jobs k))
  job_judged k job (Ok Proved) stands h = there_right k job stands h
  job_judged k job (Ok Wrong) stands h = λ right. h (right job stands)
  job_judged k job (Ok TooCostly) stands h = tt
  job_judged k job (Err e) stands h = h

  -- the first index that is not right is that of the first job that is not right
  pub first_wrong_job : (works : ℕ → ℕ) (k : ℕ) (m : Metered) → IsFirstWrong (IsRightAt S jobs) works (length jobs) k m → IsFirstWrongJob S jobs (Some k)
  first_wrong_job works k m first =
      let job = get_there jobs k first.stands in
      record {
        before = λ i job less stands. first.before.each i less job stands;
        wrong = record { job = job.0; stands = job.1; not_right = λ right. first.wrong (there_right k job.0 job.1 right) };
      }

  -- if each index is right, so is each job
  pub no_wrong_job : (works : ℕ → ℕ) (m : Metered) → IsRightTo (IsRightAt S jobs) works (length jobs) m → IsFirstWrongJob S jobs None
  no_wrong_job works m all = record { before = λ i job _ stands. all.each i (slice_get_within jobs i job stands) job stands; wrong = tt }

-- without a limit nothing is too costly
pub never_costly : (right : ℕ → Type 0) (works : ℕ → ℕ) (count k : ℕ) (m : Metered) → m.limit ≡ None → IsFirstTooCostly right works count k m → ⊥
never_costly right works count k m none costly = true≢false (sym (P none costly.past))
  where
    P : m.limit ≡ None → IsTrue (is_past (metered_to works (suc k) m)) → false ≡ true
    P e h = ap (λ limit. is_over limit (m.count + work_to works (suc k))) (sym e) ∙ h

-- where nothing is counted, the meter stays
pub counts_nothing : {E : Type 0} (P : Type 0) (m : Metered) (r : Result Answer E) → IfOk r (λ answer. IsAnswerTo answer P) → IfOk r (HasCountedAnswer 0 m m)
counts_nothing P m (Ok Proved) h = sym (with-none m)
counts_nothing P m (Ok Wrong) h = sym (with-none m)
counts_nothing P m (Ok TooCostly) h = absurd h
counts_nothing P m (Err e) h = h

-- two answers for one list of jobs are equal, since neither can be before the other
pub one_answer : OneAnswer
one_answer S jobs None None p q = refl
one_answer S jobs None (Some j) p q = absurd (q.wrong.not_right (p.before j q.wrong.job tt q.wrong.stands))
one_answer S jobs (Some i) None p q = absurd (p.wrong.not_right (q.before i p.wrong.job tt p.wrong.stands))
one_answer S jobs (Some i) (Some j) p q =
    elim (cases_order i j) as (λ _. Some i ≡ Some j) [
      | inl e ↦ ap Some e
      | inr (inl less) ↦ absurd (p.wrong.not_right (q.before i p.wrong.job less p.wrong.stands))
      | inr (inr less) ↦ absurd (q.wrong.not_right (p.before j q.wrong.job less q.wrong.stands))
    ]
