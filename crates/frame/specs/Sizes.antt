-- What variables and assertions count in the work of a text.
-- Source: this project's profile (docs/COSTS.md).
-- The code goes over the active `$d` of one variable; here all active `$d` are looked at.
use Rattle.std.specs.Prelude.{ℕ, ◌+◌, if◌then◌else◌, List, [], ◌∷◌, length, filter, flat_map, sum_by}
use Rattle.frame.specs.Words.{Name, has_name, Stmt, Expr, Database, active, expr_of}
use Rattle.mm_read.specs.declared.stmt.Stmt.TheVariants.{Ess}
use Rattle.scope.specs.Active.{typed_variables}
use Rattle.frame.specs.FrameOf.{active_disjoint_lists, hypotheses, is_mandatory}

-- how many names the list has if x is one of them, and else none
abbrev pub length_if_listed : Name → List Name → ℕ
length_if_listed x names = if has_name x names then length names else 0

-- the row of a variable after the statements S: the sum, over the active `$d` that list it, of how
-- many variables they list
abbrev pub row : Database → Name → ℕ
row S x = sum_by (length_if_listed x) (active_disjoint_lists S)

-- the expression of a `$e`
abbrev pub essential_expr : Stmt → List Expr
essential_expr (Ess label expr) = expr ∷ []
essential_expr s = []

-- the expressions of the active `$e`, which are mandatory for each assertion there
abbrev pub essential_exprs : Database → List Expr
essential_exprs S = flat_map (λ p. essential_expr p.1) (active S)

-- the mandatory variables of the assertion s, in the order of their `$f`
abbrev pub mandatory_variables : Database → Stmt → List Name
mandatory_variables S s = filter (is_mandatory S s) (typed_variables S)

-- the size of the assertion s: its mandatory hypotheses; the lengths of its conclusion and of its
-- mandatory `$e`; the rows of its mandatory variables
abbrev pub assertion_size : Database → Stmt → ℕ
assertion_size S s =
    length (hypotheses S s)
    + (length (expr_of s) + sum_by length (essential_exprs S))
    + sum_by (row S) (mandatory_variables S s)
