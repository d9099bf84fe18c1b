-- Where a run over the items of a proof stops.
-- Metamath, 4.2.6 and appendix B: one item after another, from no results; the limit on the weight
-- is this project's.
-- The code runs over the items once, up to the first that cannot be done.
use Rattle.std.specs.Prelude.{◌≡◌, ℕ, ◌<◌, ◌≤◌, List, [], ◌∷◌, length, map, take, slice_get, Some}
use Rattle.verify.specs.Words.{Name, Stmt, Database, stmt_at, expr_of, Item, decode, Numbered}
use Rattle.verify.specs.RunsItemByNumber.{named, AreNamed}
use Rattle.verify.specs.Machine.{Results, State, start, Runs, RunsItem}
use Rattle.verify.specs.Right.{IsRight, weight_limit}
use Rattle.verify.specs.Walk.{Walk, walk}
use Rattle.verify.specs.declared.citation.ProofContext.{ProofContext}
use Rattle.verify.specs.declared.failure.Failure.{Failure}
use Rattle.verify.specs.declared.failure.Failure.TheVariants as failure
use Rattle.verify.specs.declared.failure.Outcome.{Outcome}
use Rattle.verify.specs.declared.failure.Outcome.TheVariants as outcome

-- the first `done` items run to these results, and the next item, if there is one, cannot be done
-- within the limit
pub record StopsAt (S : Database) (at : ℕ) (names : List Name) (items : List Item) (done : ℕ) (st : Results ℕ) : Type 0 where
  pub within : done ≤ length items
  pub runs : Runs S at start (take done items) (named names st)
  pub are_named : AreNamed names st
  pub stuck : (item : Item) → slice_get items done ≡ Some item → (next : State) → RunsItem S at (named names st) item next → weight_limit < next.weight

-- in the context of a proof, the first `done` items run to these results, and the next cannot be
-- done within the limit
abbrev pub StopsIn : ProofContext → List Item → ℕ → Results ℕ → Type 0
StopsIn context items done st = StopsAt context.frames.now.statements context.at context.frames.now.names items done st

-- the stack is not the expression alone
abbrev pub IsNotOnly : List Name → Results ℕ → Stmt → Type 0
IsNotOnly names st s = map (decode names) st.stack ≡ expr_of s ∷ [] → ⊥

-- the run stops after `done` items with these results, within the limit
pub record IsStopped (S : Database) (at : ℕ) (names : List Name) (items : List Item) (done : ℕ) (st : Results ℕ) : Type 0 where
  pub stops : StopsAt S at names items done st
  pub light : st.weight ≤ weight_limit

-- the first item that cannot be done and the results before it, or the results at the end, which
-- are not the expression alone
abbrev pub IsFirstFailure : Database → ℕ → List Name → List Item → Failure → Type 0
IsFirstFailure S at names items (failure.Item item results) = (item < length items) × IsStopped S at names items item results.results
IsFirstFailure S at names items (failure.End results) =
    IsStopped S at names items (length items) results.results × ((s : Stmt) → stmt_at S at ≡ Some s → IsNotOnly names results.results s)

-- the items are a right proof, and the stack is the statement's expression alone; or they are not,
-- and fail here
abbrev pub IsOutcome : Database → ℕ → List Name → List Item → Outcome → Type 0
IsOutcome S at names items (outcome.Right results) =
    IsRight S at items × ((s : Stmt) → stmt_at S at ≡ Some s → map (decode names) results.results.stack ≡ expr_of s ∷ [])
IsOutcome S at names items (outcome.Failed fails) = (IsRight S at items → ⊥) × IsFirstFailure S at names items fails

-- the listener follows the walk over the items that were done
abbrev pub HasHeardAll : {L : Type 0} → (Walk → L → Type 0) → Numbered → ℕ → List Item → Outcome → L → Type 0
HasHeardAll follows f at items (outcome.Right results) listener = follows (walk f at items results) listener
HasHeardAll follows f at items (outcome.Failed (failure.Item item results)) listener = follows (walk f at (take item items) results) listener
HasHeardAll follows f at items (outcome.Failed (failure.End results)) listener = follows (walk f at items results) listener
