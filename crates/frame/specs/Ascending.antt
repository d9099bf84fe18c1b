-- Lists of positions in ascending order.
-- Source: Metamath, 4.2.6 (the mandatory hypotheses of an assertion are in order of position).
-- The code sorts positions and removes repetitions.
use Rattle.std.specs.Prelude.{ℕ, ◌<◌, List, [], ◌∷◌}

-- each position of the list is above p
abbrev pub AreAbove : ℕ → List ℕ → Type 0
AreAbove p [] = Unit {0}
AreAbove p (q ∷ qs) = (p < q) × AreAbove p qs

-- in ascending order, each once
abbrev pub Ascends : List ℕ → Type 0
Ascends [] = Unit {0}
Ascends (p ∷ ps) = AreAbove p ps × Ascends ps
