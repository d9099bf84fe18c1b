-- Lists of symbols, any two different of which are a pair.
-- Metamath, 4.2.6: every two variables of an active `$d` are disjoint.
-- The code goes through the lists of the active `$d` that have one variable, by number.
use Rattle.std.specs.Prelude.{◌≡◌, ◌==◌, ◌&&◌, ◌<◌, ℕ, Bool, true, false, List, length}
use Rattle.frame.specs.Words.{list_any, name_at}
use Rattle.frame.specs.FrameOf.{is_pair}
use Rattle.frame.specs.Parts.{Numbered}

-- whether the symbols with these numbers are a pair
abbrev pub is_numbered_pair : Numbered → ℕ → ℕ → Bool
is_numbered_pair v x y = is_pair v.statements (name_at v.names x) (name_at v.names y)

-- one of the lists has both symbols
abbrev pub have_both : List (List ℕ) → ℕ → ℕ → Bool
have_both lists a b = list_any (λ list. list_any (λ c. a == c) list && list_any (λ c. b == c) list) lists

-- every two different symbols of one list are a pair
pub record AreListsOfPairs (v : Numbered) (lists : List (List ℕ)) : Type 0 where
  pub each : (a b : ℕ) → a < length v.names → b < length v.names → (a == b) ≡ false → have_both lists a b ≡ true → is_numbered_pair v a b ≡ true
