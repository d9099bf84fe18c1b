-- Laws that hold for the steps of any items.
-- Metamath, 4.2.6: a result follows from earlier ones.
-- The code looks steps up in a map; here no two of them are equal.
use Rattle.std.specs.Prelude.{◌≡◌, ℕ, List, Some, slice_get}
use Rattle.steps.specs.Words.{Database, AreBelow, Item}
use Rattle.steps.specs.StepTable.{Step, AreSteps}

-- each step takes only earlier steps
abbrev pub TakeEarlier : Type 0
TakeEarlier = (S : Database) (at : ℕ) (items : List Item) (steps : List Step) → AreSteps S at items steps
    → (k : ℕ) (step : Step) → slice_get steps k ≡ Some step → AreBelow k step.taken

-- no two steps are equal
abbrev pub StepsAreDistinct : Type 0
StepsAreDistinct = (S : Database) (at : ℕ) (items : List Item) (steps : List Step) → AreSteps S at items steps
    → (j k : ℕ) (step : Step) → slice_get steps j ≡ Some step → slice_get steps k ≡ Some step → j ≡ k
