-- The table that the code builds while it listens to the run over the items.
-- Source: this project's form of a table of steps.
-- The expressions are ranges of the buffer of the run's results; a step is found by its position and
-- those that it takes.
use Rattle.std.specs.Prelude.{◌≡◌, ◌≢◌, ℕ, ◌≤◌, ◌⊎◌, List, [], ◌∷◌, ◌++◌, length, map, Option, Some, None, slice_get}
use Rattle.steps.specs.Words.{BTreeMap, get_by, slice_cmp, nat_cmp, Vec, Global, Name, Database, AreBelow, SymbolRange, symbols_in, State, Walk, named}
use Rattle.steps.specs.declared.table_draft.StoredStep.{StoredStep}
use Rattle.steps.specs.declared.table_draft.TableDraft.{TableDraft}
use Rattle.steps.specs.StepTable.{Step, Progress, progress, RecordsItems}
use Rattle.steps.specs.Rows.{Row, steps_of, expr_in, AreRows}

-- ---- finding equal steps

-- the key of a step in the map: the position that it cites, and the places that it takes
abbrev pub key_of : Step → List ℕ
key_of step = step.position ∷ step.taken

-- the place that the map has for a key, if any
abbrev pub place_of : BTreeMap (Vec ℕ Global) ℕ → List ℕ → Option ℕ
place_of step_places key = get_by (λ k. slice_cmp nat_cmp key k.items) step_places

-- the map has the place of each step, and no other
pub record AreStepPlaces (step_places : BTreeMap (Vec ℕ Global) ℕ) (steps : List Step) : Type 0 where
  pub there : (step : Step) (n : ℕ) → place_of step_places (key_of step) ≡ Some n → slice_get steps n ≡ Some step
  pub all : (step : Step) (n : ℕ) → slice_get steps n ≡ Some step → place_of step_places (key_of step) ≡ Some n

-- ---- rows in one buffer

-- the row of a step, whose expression is a range of the buffer
abbrev pub row_of : List ℕ → StoredStep → Row
row_of symbols p = record { step = record { position = p.position; taken = p.taken.items }; expr = symbols_in symbols p.range }

-- the rows of a draft, whose expressions are ranges of these symbols
abbrev pub rows_of : List ℕ → TableDraft → List Row
rows_of symbols d = map (row_of symbols) d.stored.items

-- the ranges of the expressions lie within the first n symbols
abbrev pub AreInBuffer : ℕ → List StoredStep → Type 0
AreInBuffer n [] = Unit {0}
AreInBuffer n (p ∷ ps) = (p.range.start ≤ p.range.end) × (p.range.end ≤ n) × AreInBuffer n ps

-- the steps of a draft, with its stack and its marked results
abbrev pub progress_of : List ℕ → TableDraft → Progress
progress_of symbols d = progress (steps_of (rows_of symbols d)) d.stack.items d.saved.items

-- the rows are those of a table (`AreRows`), the map finds their steps, and the stack and the
-- marked results are places of rows
pub record IsDraft (S : Database) (at : ℕ) (names : List Name) (symbols : List ℕ) (d : TableDraft) : Type 0 where
  pub inside : AreInBuffer (length symbols) d.stored.items
  pub rows : AreRows S at names (rows_of symbols d)
  pub step_places : AreStepPlaces d.step_places (steps_of (rows_of symbols d))
  pub stack_below : AreBelow (length d.stored.items) d.stack.items
  pub saved_below : AreBelow (length d.stored.items) d.saved.items

-- the results of a run, which goes over the items with a stack of expressions (`Machine` of
-- `verify`), are the expressions of the rows
pub record AgreesWithRun (names : List Name) (symbols : List ℕ) (d : TableDraft) (st : State) : Type 0 where
  pub stack : map (expr_in names (rows_of symbols d)) d.stack.items ≡ st.stack
  pub saved : map (expr_in names (rows_of symbols d)) d.saved.items ≡ st.saved

-- the draft has the steps of the items of the walk, and its results are those of the walk
pub record IsDraftOf (w : Walk) (d : TableDraft) : Type 0 where
  pub draft : IsDraft w.statements w.at w.names w.symbols d
  pub agrees : AgreesWithRun w.names w.symbols d (named w.names w.results)
  pub recorded : RecordsItems w.statements w.at (progress [] [] []) w.items (progress_of w.symbols d)

-- ---- the steps that a change adds

-- a step was appended, and its result pushed
pub record AddsStep (old new : TableDraft) (step : StoredStep) : Type 0 where
  pub stored : new.stored.items ≡ old.stored.items ++ step ∷ []
  pub stack : new.stack.items ≡ old.stack.items ++ length old.stored.items ∷ []
  pub saved : new.saved.items ≡ old.saved.items
  pub own : place_of new.step_places (step.position ∷ step.taken.items) ≡ Some (length old.stored.items)
  pub others : (x : List ℕ) → x ≢ step.position ∷ step.taken.items → place_of new.step_places x ≡ place_of old.step_places x

-- an equal step was there, and its result is pushed
pub record FindsStep (old new : TableDraft) (step : Step) : Type 0 where
  pub place : ℕ
  pub found : place_of old.step_places (key_of step) ≡ Some place
  pub stack : new.stack.items ≡ old.stack.items ++ place ∷ []
  pub saved : new.saved.items ≡ old.saved.items
  pub stored : new.stored.items ≡ old.stored.items
  pub step_places : new.step_places ≡ old.step_places

-- no equal step was there; the step is appended, with the range of its expression, and its result
-- is pushed
pub record MakesStep (old new : TableDraft) (step : Step) (range : SymbolRange) : Type 0 where
  pub made : StoredStep
  pub is_position : made.position ≡ step.position
  pub is_taken : made.taken.items ≡ step.taken
  pub is_range : made.range ≡ range
  pub fresh : place_of old.step_places (key_of step) ≡ None
  pub adds : AddsStep old new made

-- the result of the step is pushed, and the step made if it was not there
abbrev pub CitesStep : TableDraft → TableDraft → Step → SymbolRange → Type 0
CitesStep old new step range = FindsStep old new step ⊎ MakesStep old new step range
