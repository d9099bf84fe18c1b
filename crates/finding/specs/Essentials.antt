-- The positions of the `$e` with a pattern, a list that a search carries from statement to
-- statement.
-- Source: none; for the private functions of `hypotheses` and `lines`.
-- The code keeps the positions of the `$e` that may still be active, and removes from the end of
-- the list those that no longer are.
use Rattle.std.specs.Prelude.{◌≡◌, ℕ, suc, ◌+◌, ◌<◌, ◌≤◌, true, List, length, get_or}
use Rattle.mm_read.specs.Statements.{Database}
use Rattle.mm_read.specs.declared.stmt.Stmt.{Stmt}
use Rattle.scope.specs.Active.{bares, is_active}
use Rattle.frame.specs.Citations.{IsHypothesis}
use Rattle.finding.specs.Matches.{Part}
use Rattle.finding.specs.declared.query.SearchQuery.{SearchQuery}
use Rattle.finding.specs.declared.query.SearchQuery.TheVariants.{WithHypotheses}
use Rattle.finding.specs.Matching.{HasPattern, essential_at}

-- the list has positions of `$e` with the pattern among the first n statements, and all of those
-- that are active after them
pub record AreMatchingEssentials (p : List Part) (S : Database) (n : ℕ) (list : List ℕ) : Type 0 where
  pub each : (k : ℕ) → k < length list → (get_or list k 0 ≤ n) × HasPattern p (essential_at S (get_or list k 0))
  pub all : (i : ℕ) → i ≤ n → HasPattern p (essential_at S i) → is_active (bares S) i (n + 1) ≡ true → (k : ℕ) × (k < length list) × (get_or list k 0 ≡ i)

-- the list is such a list if hypotheses are searched for a pattern, and any list otherwise
abbrev pub AreRecorded : SearchQuery → Database → ℕ → List ℕ → Type 0
AreRecorded (WithHypotheses p) S n list = AreMatchingEssentials p S n list
AreRecorded query S n list = Unit {0}

-- the statement at position i is a hypothesis that is active at position `at`
abbrev pub IsActiveHypothesis : Database → ℕ → ℕ → Type 0
IsActiveHypothesis F at i = (s : Stmt) × IsHypothesis F at i s

-- the length of the list up to the last position that is that of a hypothesis active at `at`, that
-- position included; 0 if there is none
pub record IsTrimmedLength (F : Database) (at : ℕ) (list : List ℕ) (remaining : ℕ) : Type 0 where
  pub within : remaining ≤ length list
  pub gone : (k : ℕ) → remaining ≤ k → k < length list → IsActiveHypothesis F at (get_or list k 0) → ⊥
  pub last : (k : ℕ) → suc k ≡ remaining → IsActiveHypothesis F at (get_or list k 0)
