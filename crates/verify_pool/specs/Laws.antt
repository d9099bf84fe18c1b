-- Laws of the first job that is not right, and of where the judging of jobs ends.
-- Source: this project; the Metamath book has no parallel check.
-- These are sentences on the definitions alone.
use Rattle.std.specs.Prelude.{◌≡◌, ℕ, List, Option}
use Rattle.mm_read.specs.Statements.{Database}
use Rattle.verify.specs.Metered.{Metered}
use Rattle.verify_pool.specs.declared.job.Job.{Job}
use Rattle.verify_pool.specs.declared.outcome.Outcome.{Outcome}
use Rattle.verify_pool.specs.FirstStop.{IsFirstStop}
use Rattle.verify_pool.specs.Jobs.{IsFirstWrongJob}

-- two answers for one list of jobs, each its first job that is not right, are equal
abbrev pub OneAnswer : Type 0
OneAnswer = (S : Database) (jobs : List Job) (a b : Option ℕ) → IsFirstWrongJob S jobs a → IsFirstWrongJob S jobs b → a ≡ b

-- two outcomes for the same jobs from the same meter on are equal, and, where it says what the
-- meter is behind them, so is that
abbrev pub OneStop : (ℕ → Type 0) → (ℕ → ℕ) → ℕ → Type 0
OneStop right works count =
    (m after after' : Metered) (a b : Outcome) → IsFirstStop right works count m after a → IsFirstStop right works count m after' b → a ≡ b
