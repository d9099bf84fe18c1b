-- The steps of a list of items.
-- Metamath, 4.2.6 and appendix B: a citation concludes a result from those that it takes; equal
-- steps are one step.
-- The code finds equal steps with an ordered map; here a step is in the list or not.
use Rattle.std.specs.Prelude.{◌≡◌, ℕ, zero, suc, List, [], ◌∷◌, ◌++◌, length, Some, slice_get}
use Rattle.steps.specs.Words.{Name, Stmt, Database, before, hypotheses, Carries, IsHypothesis, Item, Cite, Recall, Mark, IsCitable}

-- the position of the cited statement, and the steps whose results it takes, by their places in the
-- table, counted from 0
pub record Step : Type 0 where
  pub position : ℕ
  pub taken : List ℕ

-- the steps so far, the places of the steps whose results are on the stack, and of those whose
-- results were marked
pub record Progress : Type 0 where
  pub steps : List Step
  pub stack : List ℕ
  pub saved : List ℕ

-- progress by its parts
abbrev pub progress : List Step → List ℕ → List ℕ → Progress
progress steps stack saved = record { steps = steps; stack = stack; saved = saved }

-- the step is at place n: it was there already, or it was nowhere and is appended
pub data IsPlaced (old : List Step) (step : Step) (new : List Step) (n : ℕ) : Type 0 where
  was_there : slice_get old n ≡ Some step → new ≡ old → IsPlaced old step new n
  is_appended : ((k : ℕ) → slice_get old k ≡ Some step → ⊥) → n ≡ length old → new ≡ old ++ step ∷ [] → IsPlaced old step new n

-- the citation of a label makes this step; `below` is the stack without the results that it takes
pub data IsStepOf (S : Database) (at : ℕ) (label : Name) (stack below : List ℕ) (step : Step) : Type 0 where
  of_hypothesis : (s : Stmt) → Carries S step.position s label → IsHypothesis S at step.position s → step.taken ≡ [] → stack ≡ below → IsStepOf S at label stack below step
  of_assertion : (s : Stmt) → Carries S step.position s label → IsCitable S at step.position s → length step.taken ≡ length (hypotheses (before S step.position) s)
      → stack ≡ below ++ step.taken → IsStepOf S at label stack below step

-- n is the place of the step of the result marked as number k, from 1
abbrev pub IsMarked : List ℕ → ℕ → ℕ → Type 0
IsMarked saved zero n = ⊥
IsMarked saved (suc k) n = slice_get saved k ≡ Some n

-- the effect of one item: a citation makes its step, a recall and a mark make none
abbrev pub RecordsItem : Database → ℕ → Progress → Item → Progress → Type 0
RecordsItem S at old (Cite label) new =
    (below : List ℕ) × (step : Step) × (n : ℕ) × IsStepOf S at label old.stack below step × IsPlaced old.steps step new.steps n
    × (new.stack ≡ below ++ n ∷ []) × (new.saved ≡ old.saved)
RecordsItem S at old (Recall k) new = (n : ℕ) × IsMarked old.saved k n × (new ≡ progress old.steps (old.stack ++ n ∷ []) old.saved)
RecordsItem S at old Mark new = (below : List ℕ) × (n : ℕ) × (old.stack ≡ below ++ n ∷ []) × (new ≡ progress old.steps old.stack (old.saved ++ n ∷ []))

-- the effect of items, one after the other
abbrev pub RecordsItems : Database → ℕ → Progress → List Item → Progress → Type 0
RecordsItems S at old [] new = old ≡ new
RecordsItems S at old (item ∷ items) new = (next : Progress) × RecordsItem S at old item next × RecordsItems S at next items new

-- these are the steps of the items, and the one result left on the stack is that of the last step
pub record AreSteps (S : Database) (at : ℕ) (items : List Item) (steps : List Step) : Type 0 where
  pub end : Progress
  pub last_place : ℕ
  pub recorded : RecordsItems S at (progress [] [] []) items end
  pub same : end.steps ≡ steps
  pub one : end.stack ≡ last_place ∷ []
  pub last : length steps ≡ suc last_place
