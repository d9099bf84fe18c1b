-- The least job that is not right, for proofs that are given as their items.
-- Source: Metamath, 4.2.6 and appendix B, for a right proof (`verify`); this project, for the first
-- one that is not right.
-- The code deals the jobs out to workers; here they are one list, judged in order.
use Rattle.std.specs.Prelude.{◌≡◌, ℕ, ◌<◌, List, slice_get, Option, Some, None, IfSome, MatchOption, ⊤}
use Rattle.mm_read.specs.declared.stmt.Stmt.{Stmt}
use Rattle.mm_read.specs.Statements.{Database}
use Rattle.verify.specs.Right.{IsProvable, IsRight}
use Rattle.verify_pool.specs.declared.job.Job.{Job}

-- a `$p` is at the job's position
abbrev pub IsJob : Database → Job → Type 0
IsJob S job = (s : Stmt) × IsProvable S job.at s

-- jobs, with the statements that they are checked against
pub record JobList : Type 0 where
  pub statements : Database
  pub jobs : List Job

-- at the position of each of the jobs is a `$p`
abbrev pub AreJobs : Database → List Job → Type 0
AreJobs S jobs = (k : ℕ) (job : Job) → slice_get jobs k ≡ Some job → IsJob S job

-- the job has items, and they are a right proof of its `$p`
abbrev pub IsRightJob : Database → Job → Type 0
IsRightJob S job = MatchOption job.items ⊥ (λ items. IsRight S job.at items)

-- the job of that index, if there is one, is right
abbrev pub IsRightAt : Database → List Job → ℕ → Type 0
IsRightAt S jobs k = (job : Job) → slice_get jobs k ≡ Some job → IsRightJob S job

-- index k is before the answer; if the answer is none, each index is
abbrev pub IsBefore : ℕ → Option ℕ → Type 0
IsBefore k None = ⊤
IsBefore k (Some i) = k < i

-- each job before the answer is right
abbrev pub AreRightBefore : Database → List Job → Option ℕ → Type 0
AreRightBefore S jobs answer = (k : ℕ) (job : Job) → IsBefore k answer → slice_get jobs k ≡ Some job → IsRightJob S job

-- there is a job of index i, and it is not right
pub record IsWrongJobAt (S : Database) (jobs : List Job) (i : ℕ) : Type 0 where
  pub job : Job
  pub stands : slice_get jobs i ≡ Some job
  pub not_right : ¬ IsRightJob S job

-- the answer is the least index of a job that is not right, or none if each is right
pub record IsFirstWrongJob (S : Database) (jobs : List Job) (answer : Option ℕ) : Type 0 where
  pub before : AreRightBefore S jobs answer
  pub wrong : IfSome answer (IsWrongJobAt S jobs)
