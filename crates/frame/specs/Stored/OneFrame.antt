-- The frame of one assertion, collected from the active statements.
-- Internal to the code: no public clause cites it.
use Rattle.std.specs.Prelude.{◌≡◌, ℕ, Bool, true, false, ◌&&◌, ◌||◌, List, map, filter}
use Rattle.frame.specs.Words.{Name, has_name, Stmt, Expr, Database, disjoint_names, expr_of, is_essential, is_variable, FrameStatement}
use Rattle.mm_read.specs.declared.stmt.Stmt.TheVariants.{Float, Ess}
use Rattle.frame.specs.FrameOf.{is_mandatory, has_two_or_more}

-- the new names are the old ones and the variables of the expression
abbrev pub AreRecorded : Database → List Name → List Name → Expr → Type 0
AreRecorded S old new expr = (x : Name) → has_name x new ≡ (has_name x old || (is_variable S x && has_name x expr))

-- the mandatory variables of an assertion
abbrev pub AreMandatory : Database → Stmt → List Name → Type 0
AreMandatory S s used = (x : Name) → has_name x used ≡ is_mandatory S s x

-- the statement is an `$e` that has the name
abbrev pub is_in_essential : Name → FrameStatement → Bool
is_in_essential x e = is_essential e.stmt && has_name x (expr_of e.stmt)

-- the statement is an `$e`, or the `$f` of one of the used variables
abbrev pub is_needed : List Name → Stmt → Bool
is_needed used (Ess label expr) = true
is_needed used (Float label constant variable) = has_name variable used
is_needed used other = false

-- the positions of the mandatory hypotheses, given the used variables
abbrev pub mandatory_positions : List Name → List FrameStatement → List ℕ
mandatory_positions used frame_statements = map (λ e. e.at) (filter (λ e. is_needed used e.stmt) frame_statements)

-- those of the names that are among the used variables
abbrev pub among : List Name → List Name → List Name
among used names = filter (λ x. has_name x used) names

-- for each `$d` those of its variables that are used, if they are two or more
abbrev pub groups_among : List Name → List FrameStatement → List (List Name)
groups_among used frame_statements = filter has_two_or_more (map (λ e. among used (disjoint_names e.stmt)) frame_statements)
