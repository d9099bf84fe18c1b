-- Sorted words: equal ones are neighbours. No public clause cites it. A `Bor Name` is a borrowed
-- name, whose bytes are `now`.
use Rattle.std.specs.Prelude.{◌≡◌, ℕ, ◌+◌, ◌<◌, true, false, List, length, get_or}
use Rattle.scope.specs.Words.{Bor, Name, name_eq}

-- none of the first n words equals the one before it; d is what `get_or` returns past the end
abbrev pub DifferFromNext : List (Bor Name) → ℕ → Type 0
DifferFromNext words n = (k : ℕ) (d : Bor Name) → k + 1 < n → name_eq (get_or words k d).now (get_or words (k + 1) d).now ≡ false

-- the word after the index `place` equals the one there; `other` is what `get_or` returns past the
-- end
pub record HasEqualNeighbours (words : List (Bor Name)) : Type 0 where
  pub place : ℕ
  pub other : Bor Name
  pub within : place + 1 < length words
  pub same : name_eq (get_or words place other).now (get_or words (place + 1) other).now ≡ true
