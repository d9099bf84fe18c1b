-- The numbers of a statement's symbols, if they were recorded while its rules were tested.
-- Source: this project's choice.
-- The code keeps them in one buffer; here they are an option.
use Rattle.std.specs.Prelude.{◌≡◌, ℕ, ◌==◌, Bool, true, not, ◌&&◌, List, [], ◌∷◌, ◌++◌, Option, Some, option_map, IfSome}
use Rattle.scope.specs.Words.{list_any, Name, Expr}
use Rattle.scope.specs.Symbols.{AreNumbers}

-- the recorded numbers, if there are any, are those of these symbols
abbrev pub AreRecorded : List Name → Expr → Option (List ℕ) → Type 0
AreRecorded symbols xs recorded = IfSome recorded (λ numbers. AreNumbers symbols xs numbers)

-- the new numbers, if there are any, are the old ones and one more
abbrev pub IsAppended : ℕ → Option (List ℕ) → Option (List ℕ) → Type 0
IsAppended n old new = IfSome new (λ numbers. Some numbers ≡ option_map (λ ns. ns ++ n ∷ []) old)

-- the numbers are distinct
abbrev pub are_numbers_distinct : List ℕ → Bool
are_numbers_distinct [] = true
are_numbers_distinct (n ∷ ns) = not (list_any (λ m. m == n) ns) && are_numbers_distinct ns
