-- How the mandatory pairs of an assertion are found.
-- Internal to the code: no public clause cites it.
use Rattle.std.specs.Prelude.{◌≡◌, ℕ, ◌&&◌, ◌||◌, List, ◌++◌}
use Rattle.frame.specs.MandatoryPairs.{has_number, IsEachOnce}

-- those of the symbols that are among the numbers before are appended, each once
pub record AddsBefore (before symbols old new : List ℕ) : Type 0 where
  pub more : List ℕ
  pub whole : new ≡ old ++ more
  pub each : (c : ℕ) → has_number new c ≡ (has_number old c || (has_number before c && has_number symbols c))
  pub once : IsEachOnce old → IsEachOnce new
