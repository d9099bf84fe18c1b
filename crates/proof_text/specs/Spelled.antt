-- The steps of the items of a walk, compared with the steps of a table.
-- Metamath, 4.2.6 and appendix B: a citation makes a step; a recall and a mark make none.
-- The code expects each citation at the place that the text was written from.
use Rattle.std.specs.Prelude.{◌≡◌, ℕ, suc, ◌<◌, ◌≤◌, IsTrue, List, [], ◌∷◌, ◌++◌, length, take, Some, slice_get}
use Rattle.steps.specs.Rows.{steps_of}
use Rattle.steps.specs.StepTable.{Step, Progress, RecordsItems, progress}
use Rattle.verify.specs.Walk.{Walk}
use Rattle.proof_text.specs.declared.spelled_steps.SpelledSteps.{SpelledSteps}

-- no two steps are equal
abbrev pub AreDistinct : List Step → Type 0
AreDistinct steps = (j k : ℕ) (step : Step) → slice_get steps j ≡ Some step → slice_get steps k ≡ Some step → j ≡ k

-- the first steps of the table, and the places of the results
abbrev pub progress_of : SpelledSteps → Progress
progress_of s = progress (take s.count (steps_of s.table.now)) s.stack.items s.saved.items

-- if no two steps of the table are equal, and no item differed so far, this is the progress of the
-- items of the walk
abbrev pub AreSpelled : Walk → SpelledSteps → Type 0
AreSpelled w s = AreDistinct (steps_of s.table.now) → IsTrue s.are_same → RecordsItems w.statements w.at (progress [] [] []) w.items (progress_of s)

-- a step of the table is cited, one of the first or the next
pub record CitesStep (old new : SpelledSteps) (position count : ℕ) : Type 0 where
  pub was_same : IsTrue old.are_same
  pub place : ℕ
  pub below : List ℕ
  pub taken : List ℕ
  pub stands : slice_get (steps_of old.table.now) place ≡ Some (record { position = position; taken = taken })
  pub early : place ≤ old.count
  pub kept : place < old.count → new.count ≡ old.count
  pub counted : (place < new.count) × (new.count ≤ suc old.count)
  pub many : length taken ≡ count
  pub whole : old.stack.items ≡ below ++ taken
  pub stack : new.stack.items ≡ below ++ place ∷ []
  pub saved : new.saved.items ≡ old.saved.items

-- the same, unless an item differed
abbrev pub CitesNext : SpelledSteps → SpelledSteps → ℕ → ℕ → Type 0
CitesNext old new position count = (new.table.now ≡ old.table.now) × (IsTrue new.are_same → CitesStep old new position count)

-- all steps of the table were cited, and one result is left
abbrev pub IsWhole : SpelledSteps → Type 0
IsWhole s = IsTrue s.are_same × (s.count ≡ length s.table.now) × (length s.stack.items ≡ 1)
