-- Numbers below a bound.
-- Source: this project's form of keeping names.
-- The code keeps symbols as numbers below the count of names.
use Rattle.std.specs.Prelude.{ℕ, ◌<◌, List, [], ◌∷◌}

-- each number is below n
abbrev pub AreBelow : ℕ → List ℕ → Type 0
AreBelow n [] = Unit {0}
AreBelow n (x ∷ xs) = (x < n) × AreBelow n xs

-- each number of each list is below n
abbrev pub AllBelow : ℕ → List (List ℕ) → Type 0
AllBelow n [] = Unit {0}
AllBelow n (e ∷ es) = AreBelow n e × AllBelow n es
