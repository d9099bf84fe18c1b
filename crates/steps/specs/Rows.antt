-- The rows of a table of steps: each step with its expression.
-- Metamath, 4.2.6: a result is a hypothesis, or follows from earlier results by one substitution in
-- an assertion.
-- The code determines the substitution from the rows that a step takes.
use Rattle.std.specs.Prelude.{◌≡◌, ℕ, List, [], length, map, get_or, Some, slice_get}
use Rattle.steps.specs.Words.{Name, Stmt, Expr, Database, expr_of, decode, AreBelow, IsHypothesis, IsInstance, premises}
use Rattle.frame.specs.Substitution.{Images, apply as applied}
use Rattle.steps.specs.StepTable.{Step}

-- a step, and the numbers of the symbols of its expression
pub record Row : Type 0 where
  pub step : Step
  pub expr : List ℕ

-- a row by its parts
abbrev pub row : ℕ → List ℕ → List ℕ → Row
row position taken expr = record { step = record { position = position; taken = taken }; expr = expr }

-- stands for the row at a place that no row has
abbrev pub no_row : Row
no_row = record { step = record { position = 0; taken = [] }; expr = [] }

-- the steps of the rows
abbrev pub steps_of : List Row → List Step
steps_of rows = map (λ r. r.step) rows

-- the expression of the row at a place
abbrev pub expr_in : List Name → List Row → ℕ → Expr
expr_in names rows k = decode names (get_or rows k no_row).expr

-- the expression of the row is what its citation concludes from the results that it takes;
-- `premises` are all mandatory hypotheses with the images put in, those from `$f` too
pub data Follows (S : Database) (at : ℕ) (names : List Name) (rows : List Row) (row : Row) : Type 0 where
  from_hypothesis : (s : Stmt) → IsHypothesis S at row.step.position s → row.step.taken ≡ [] → decode names row.expr ≡ expr_of s → Follows S at names rows row
  from_assertion : (s : Stmt) (σ : Images) → IsInstance S at row.step.position s σ → map (expr_in names rows) row.step.taken ≡ premises S row.step.position s σ
      → decode names row.expr ≡ applied σ (expr_of s) → Follows S at names rows row

-- the row at place k takes earlier rows, follows from them, and its symbols have names
pub record IsRow (S : Database) (at : ℕ) (names : List Name) (rows : List Row) (k : ℕ) (row : Row) : Type 0 where
  pub earlier : AreBelow k row.step.taken
  pub follows : Follows S at names rows row
  pub named : AreBelow (length names) row.expr

-- each row takes earlier rows, follows from them, and its symbols have names
abbrev pub AreRows : Database → ℕ → List Name → List Row → Type 0
AreRows S at names rows = (k : ℕ) (row : Row) → slice_get rows k ≡ Some row → IsRow S at names rows k row
