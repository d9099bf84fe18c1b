-- The last active statement of a kind after a list of statements, from which the active one before
-- it is found.
-- Metamath, 4.2.8: blocks nest, so a statement that is active at an active statement is still
-- active.
-- The code keeps for each position the last active statement of four kinds, and walks back from it.
use Rattle.std.specs.Prelude.{ℕ, Bool, true, false, List, [], ◌∷◌, filter}
use Rattle.frame.specs.Words.{Stmt, Database, active_from, is_open, is_essential, LastActive}
use Rattle.mm_read.specs.declared.stmt.Stmt.TheVariants.{Var, Disj}

-- a `$v`
abbrev pub is_var : Stmt → Bool
is_var (Var names) = true
is_var s = false

-- a `$d`
abbrev pub is_disj : Stmt → Bool
is_disj (Disj names) = true
is_disj s = false

-- the active statements that pass the test, with their positions, if the first statement of the
-- list is at `at`
abbrev pub actives_from : (Stmt → Bool) → ℕ → Database → List (ℕ × Stmt)
actives_from kind at S = filter (λ p. kind p.1) (active_from at S)

-- the active statements that pass the test, with their positions
abbrev pub actives : (Stmt → Bool) → Database → List (ℕ × Stmt)
actives kind S = actives_from kind 1 S

-- the position at the end of the list, or 0
abbrev pub last_position : List (ℕ × Stmt) → ℕ
last_position [] = 0
last_position (p ∷ []) = p.0
last_position (p ∷ q ∷ ps) = last_position (q ∷ ps)

-- the position of the last active statement that passes the test, or 0
abbrev pub last_active_of_kind : (Stmt → Bool) → Database → ℕ
last_active_of_kind kind S = last_position (actives kind S)

-- the last active `${`, `$e`, `$v` and `$d`
abbrev pub last_active_of : Database → LastActive
last_active_of S = record { block = last_active_of_kind is_open S; essential = last_active_of_kind is_essential S; variable = last_active_of_kind is_var S; disjoint = last_active_of_kind is_disj S }
