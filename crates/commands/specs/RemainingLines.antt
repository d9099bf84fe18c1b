-- The rest of a script while its lines are taken.
-- Source: this project's own form.
-- The code keeps the bytes that are left and counts the lines that it took.
use Rattle.std.specs.Prelude.{◌≡◌, ℕ, ◌+◌, List, drop}

-- the number of the last line taken, and the lines after it
pub record RemainingLines : Type 0 where
  pub number : ℕ
  pub lines : List (List ℕ)

-- `count` more lines are taken
pub record IsAdvanced (count : ℕ) (old new : RemainingLines) : Type 0 where
  pub number : new.number ≡ old.number + count
  pub lines : new.lines ≡ drop count old.lines
