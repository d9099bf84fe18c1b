-- The steps of the items of a proof up to the first that cannot be done.
-- Metamath, 4.2.6 and appendix B: one item after another, from no results.
-- The code listens to the run of the verifier, which stops there.
use Rattle.std.specs.Prelude.{◌≡◌, ℕ, ◌<◌, ◌≤◌, List, [], length, take, slice_get, Some}
use Rattle.steps.specs.Words.{Database, Item, State}
use Rattle.steps.specs.StepTable.{Step, Progress, progress, RecordsItems}
use Rattle.verify.specs.Machine.{Runs, RunsItem, start}
use Rattle.verify.specs.Right.{weight_limit}

-- these are the steps of the items, and the results on the stack are those of the steps at these
-- places
pub record AreStepsSoFar (S : Database) (at : ℕ) (items : List Item) (steps : List Step) (stack : List ℕ) : Type 0 where
  pub end : Progress
  pub recorded : RecordsItems S at (progress [] [] []) items end
  pub same : end.steps ≡ steps
  pub left : end.stack ≡ stack

-- after the items of a front, the item cannot be done within the limit on the weight
pub record IsStuck (S : Database) (at : ℕ) (front : List Item) (item : Item) : Type 0 where
  pub state : State
  pub runs : Runs S at start front state
  pub heavy : (next : State) → RunsItem S at state item next → weight_limit < next.weight

-- so many of the items were done, and the next, if there is one, cannot be done
pub record IsDoneUpTo (S : Database) (at : ℕ) (items : List Item) (done : ℕ) : Type 0 where
  pub within : done ≤ length items
  pub stuck : (item : Item) → slice_get items done ≡ Some item → IsStuck S at (take done items) item
