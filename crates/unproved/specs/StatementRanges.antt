-- Consecutive statements as jobs of a pool.
-- Source: none; for the private functions of `statement_range` and `search`.
-- The code also has the frames, which the model leaves out.
use Rattle.std.specs.Prelude.{◌≡◌, ℕ, ◌+◌, ◌-◌, ◌<◌, ◌≤◌, length, Option, Some, None, IfSome, ⊤}
use Rattle.library.specs.Words.{Database, bares}
use Rattle.library.specs.Judging.{IsProvedIfProvable}
use Rattle.verify_pool.specs.declared.outcome.Outcome.{Outcome}
use Rattle.verify_pool.specs.declared.outcome.Outcome.TheVariants.{Wrong}

-- all statements, and a range: the positions after `start`, up to `end`
pub record RangeView : Type 0 where
  pub statements : Database
  pub start : ℕ
  pub end : ℕ

-- `start` is at most `end`, which is at most the number of statements, and the frames are those of
-- the statements
pub record IsRangeWithFrames (frame_statements S : Database) (start end : ℕ) : Type 0 where
  pub frames_are : frame_statements ≡ bares S
  pub order : start ≤ end
  pub within : end ≤ length S

-- the statement at that index of the range is proved, if it is a `$p`
abbrev pub IsProvedIn : RangeView → ℕ → Type 0
IsProvedIn range k = IsProvedIfProvable range.statements (range.start + k + 1)

-- the index of the job that is wrong, if the outcome has one
abbrev pub wrong_index : Outcome → Option ℕ
wrong_index (Wrong i) = Some i
wrong_index outcome = None

-- index k is before the answer; if the answer is none, each index is
abbrev pub IsBefore : ℕ → Option ℕ → Type 0
IsBefore k None = ⊤
IsBefore k (Some i) = k < i

-- at the index i of the range is a `$p` that is not proved
abbrev pub IsUnprovedAt : Database → ℕ → ℕ → ℕ → Type 0
IsUnprovedAt S start end i = (i < end - start) × (¬ IsProvedIfProvable S (start + i + 1))

-- the answer is the index, in the range, of the first `$p` that is not proved, or none if each is
-- proved
pub record IsFirstUnprovedIn (S : Database) (start end : ℕ) (answer : Option ℕ) : Type 0 where
  pub before : (k : ℕ) → k < end - start → IsBefore k answer → IsProvedIfProvable S (start + k + 1)
  pub wrong : IfSome answer (IsUnprovedAt S start end)
