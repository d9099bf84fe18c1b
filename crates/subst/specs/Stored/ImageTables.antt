-- Images by the number of their symbol, in tables that are not cleared symbol by symbol.
-- Source: this project's representation of images.
-- The code records for each symbol the range of its image and the round in which it was set; an
-- image of another round does not count.
use Rattle.std.specs.Prelude.{ℕ, suc, ◌≤◌, ◌==◌, if◌then◌else◌, List, [], ◌∷◌}
use Rattle.subst.specs.declared.symbol_range.SymbolRange.{SymbolRange}

-- the symbols from k on whose images were set in the round, with their ranges
abbrev pub images_in_round : ℕ → ℕ → List ℕ → List SymbolRange → List (ℕ × SymbolRange)
images_in_round round k [] ranges = []
images_in_round round k (r ∷ rounds) [] = []
images_in_round round k (r ∷ rounds) (range ∷ ranges) = if r == round then (k, range) ∷ images_in_round round (suc k) rounds ranges else images_in_round round (suc k) rounds ranges

-- none was set in a later round
abbrev pub AreUpTo : ℕ → List ℕ → Type 0
AreUpTo round [] = Unit {0}
AreUpTo round (r ∷ rounds) = (r ≤ round) × AreUpTo round rounds
