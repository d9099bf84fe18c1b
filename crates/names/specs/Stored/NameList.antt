-- Names in one buffer, each from the end of the one before it up to its own end. No public clause
-- cites it.
-- Source: this project's choice.
use Rattle.std.specs.Prelude.{◌≡◌, ℕ, zero, suc, ◌≤◌, List, [], ◌∷◌, slice_range}
use Rattle.mm_lex.specs.Alphabet.{Name}

-- the parts of a buffer from an index on, one after the other, each up to its end
abbrev pub names_from : List ℕ → ℕ → List ℕ → List Name
names_from xs from [] = []
names_from xs from (to ∷ ends) = slice_range xs from to ∷ names_from xs to ends

-- where the part at an index begins
abbrev pub start_of : ℕ → List ℕ → ℕ → ℕ
start_of from [] n = from
start_of from (to ∷ ends) zero = from
start_of from (to ∷ ends) (suc n) = start_of to ends n

-- the ends ascend from an index on, and the last one is n
abbrev pub AreAscendingEnds : ℕ → ℕ → List ℕ → Type 0
AreAscendingEnds n from [] = n ≡ from
AreAscendingEnds n from (to ∷ ends) = (from ≤ to) × AreAscendingEnds n to ends
