-- The stripe of a worker: every `step`-th job, from the job `first` on.
-- Source: this project; the Metamath book has no parallel check.
-- The code goes from job to job by adding `step`; here the jobs are numbered by their turn, from 0.
use Rattle.std.specs.Prelude.{◌≡◌, ℕ, ◌+◌, ◌*◌, ◌<◌, List, length, slice_get, slice_index_or, Some, false, IsTrue}
use Rattle.verify.specs.Metered.{Metered, is_past, with_work}
use Rattle.verify.specs.declared.answer.Answer.{Answer}
use Rattle.verify.specs.declared.answer.Answer.TheVariants as an_answer
use Rattle.verify_pool.specs.declared.checkers.Found.{Found}
use Rattle.verify_pool.specs.declared.checkers.Found.TheVariants.{Right, Wrong, Unknown}
use Rattle.verify_pool.specs.declared.checkers.Worker.{Worker}

-- what a worker found out about job k is true
abbrev pub IsFound : (ℕ → Type 0) → (ℕ → ℕ) → ℕ → Found → Type 0
IsFound right works k (Right work) = right k × (works k ≡ work)
IsFound right works k (Wrong work) = (¬ right k) × (works k ≡ work)
IsFound right works k Unknown = Unit {0}

-- what a worker found out about the jobs of its stripe, one after another, is true
abbrev pub AreFoundIn : (ℕ → Type 0) → (ℕ → ℕ) → ℕ → ℕ → List Found → Type 0
AreFoundIn right works first step founds = (turn : ℕ) (found : Found) → slice_get founds turn ≡ Some found → IsFound right works (first + turn * step) found

-- what each worker found out about the jobs of its stripe is true
abbrev pub AreFound : (ℕ → Type 0) → (ℕ → ℕ) → List Worker → Type 0
AreFound right works workers =
    (i : ℕ) (d : Worker) → i < length workers → AreFoundIn right works i (length workers) (slice_index_or workers i d).founds.items

-- the answer on a job that counts this much: its work is counted and within the limit, or past it
abbrev pub IsSettled : Type 0 → ℕ → Metered → Metered → Answer → Type 0
IsSettled right work m m' an_answer.Proved = right × (m' ≡ with_work m work) × (is_past m' ≡ false)
IsSettled right work m m' an_answer.Wrong = (¬ right) × (m' ≡ with_work m work) × (is_past m' ≡ false)
IsSettled right work m m' an_answer.TooCostly = IsTrue (is_past (with_work m work))
