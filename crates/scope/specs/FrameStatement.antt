-- The frame statements, `$f`, `$e` and `$d`, that are active, with their positions.
-- Source: Metamath, 4.2.8 (scoping statements); a frame has statements of these three kinds
-- (4.2.7).
-- The code keeps them on a stack; here they are filtered from what is active.
use Rattle.std.specs.Prelude.{ℕ, List, [], ◌∷◌}
use Rattle.scope.specs.Words.{flat_map, Stmt, Disj, Float, Ess, Database}
use Rattle.scope.specs.Active.{active}
use Rattle.scope.specs.declared.frame_statements.FrameStatement.{FrameStatement}

-- a `$f`, `$e` or `$d` with its position, as a list of one; the empty list for any other statement
abbrev pub as_frame_statement : ℕ → Stmt → List FrameStatement
as_frame_statement at (Float label constant variable) = record { at = at; stmt = Float label constant variable } ∷ []
as_frame_statement at (Ess label expr) = record { at = at; stmt = Ess label expr } ∷ []
as_frame_statement at (Disj names) = record { at = at; stmt = Disj names } ∷ []
as_frame_statement at s = []

-- those that are active, in order
abbrev pub frame_statements_of : Database → List FrameStatement
frame_statements_of S = flat_map (λ p. as_frame_statement p.0 p.1) (active S)
