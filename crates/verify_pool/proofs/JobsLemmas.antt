-- Jobs stay jobs when statements are appended; the last `$p` is the next job.
use Rattle.verify_pool.proofs.Words.{◌≡◌, ℕ, zero, suc, ◌++◌, inl, inr, List, [], ◌∷◌, length, Some, IsTrue, arith, sym, subst, ap, ◌∙◌, none-some, Database, Job, IsJob, AreJobs}
use Rattle.std.proofs.lemmas.List.{length-append}
use Rattle.verify_pool.proofs.StripeLemmas.{get_added}
use Rattle.mm_read.specs.declared.stmt.Stmt.{Stmt}
use Rattle.scope.specs.Active.{stmt_at, is_provable}
pub use Rattle.entries.proofs.StatementRecordLemmas.{get-more, get-last}

-- a statement keeps its position when others are appended
pub stmt_stays : (S more : Database) (at : ℕ) (s : Stmt) → stmt_at S at ≡ Some s → stmt_at (S ++ more) at ≡ Some s
stmt_stays S more zero s e = absurd (none-some s e)
stmt_stays S more (suc n) s e = get-more S more n s e

-- jobs are still jobs when statements are appended
jobs_stay : (S more : Database) (jobs : List Job) → AreJobs S jobs → AreJobs (S ++ more) jobs
jobs_stay S more jobs are k job stands =
    let old = are k job stands in
    (old.0, record { stands = stmt_stays S more job.at old.0 old.1.stands; provable = old.1.provable })

-- a `$p` at the end is a job
pub last_is_job : (S : Database) (s : Stmt) (job : Job) → IsTrue (is_provable s) → job.at ≡ length (S ++ s ∷ []) → IsJob (S ++ s ∷ []) job
last_is_job S s job provable last =
    let at : suc (length S) ≡ job.at = omega (arith, length-append S (s ∷ []), last) in
    (s, record { stands = subst (λ n. stmt_at (S ++ s ∷ []) n ≡ Some s) at (get-last S s); provable = provable })

-- a list of jobs with one more job is a list of jobs
job_added : (S : Database) (jobs : List Job) (job : Job) → AreJobs S jobs → IsJob S job → AreJobs S (jobs ++ job ∷ [])
job_added S jobs job are is k other stands =
    elim (get_added jobs job other k stands) as (λ _. IsJob S other) [
      | inl old ↦ are k other old
      | inr same ↦ subst (IsJob S) same.1 is
    ]

-- jobs are still jobs when one statement is appended
pub same_jobs : (S T : Database) (s : Stmt) (jobs : List Job) → T ≡ S ++ s ∷ [] → AreJobs S jobs → AreJobs T jobs
same_jobs S T s jobs more are = subst (λ U. AreJobs U jobs) (sym more) (jobs_stay S (s ∷ []) jobs are)

-- when a `$p` is appended, its job may be appended to the jobs
pub next_job : (S T : Database) (s : Stmt) (jobs : List Job) (job : Job) → T ≡ S ++ s ∷ [] → AreJobs S jobs
    → IsTrue (is_provable s) → job.at ≡ length T → AreJobs T (jobs ++ job ∷ [])
next_job S T s jobs job more are provable last =
    job_added T jobs job (same_jobs S T s jobs more are)
    (subst (λ U. IsJob U job) (sym more) (last_is_job S s job provable (last ∙ ap length more)))
