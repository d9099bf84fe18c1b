-- Consequences of legality for the symbols of an assertion and of its mandatory hypotheses.
-- Metamath, 4.2.4 and 4.2.7: a variable that is used has exactly one active `$f`; an expression
-- begins with a constant.
-- The code tests none of this when an assertion is cited.
use Rattle.std.specs.Prelude.{◌≡◌, ℕ, true, false, List, [], ◌∷◌, slice_get, Some}
use Rattle.frame.specs.Words.{Name, has_name, Stmt, Expr, Database, stmt_at, before, expr_of, is_variable}
use Rattle.mm_read.specs.declared.stmt.Stmt.TheVariants.{Float, Ess}
use Rattle.frame.specs.FrameOf.{hypotheses, mandatory_groups}

-- x is the variable of the `$f` at one of the positions
pub record HasFloat (S : Database) (ps : List ℕ) (x : Name) : Type 0 where
  pub place : ℕ
  pub position : ℕ
  pub label : Name
  pub constant : Name
  pub listed : slice_get ps place ≡ Some position
  pub stands : stmt_at S position ≡ Some (Float label constant x)

-- the first symbol, if there is one, is not a variable
abbrev pub BeginsWithNoVariable : Database → Expr → Type 0
BeginsWithNoVariable S [] = Unit {0}
BeginsWithNoVariable S (x ∷ e) = is_variable S x ≡ false

-- each variable of the expression, of the mandatory `$e` and of the groups of the assertion s at a
-- is that of exactly one mandatory `$f`; a variable at a mandatory `$e` is still a variable at the
-- assertion, and so is the variable of a mandatory `$f`; no first symbol of the expression or of a
-- mandatory hypothesis is a variable
pub record IsWellTyped (S : Database) (a : ℕ) (s : Stmt) : Type 0 where
  pub own : (x : Name) → has_name x (expr_of s) ≡ true → is_variable (before S a) x ≡ true → HasFloat S (hypotheses (before S a) s) x
  pub essential : (k p : ℕ) (label : Name) (e : Expr) (x : Name) → slice_get (hypotheses (before S a) s) k ≡ Some p
      → stmt_at S p ≡ Some (Ess label e) → has_name x e ≡ true → is_variable (before S a) x ≡ true
      → HasFloat S (hypotheses (before S a) s) x
  pub grouped : (k : ℕ) (g : List Name) (x : Name) → slice_get (mandatory_groups (before S a) s) k ≡ Some g → has_name x g ≡ true → HasFloat S (hypotheses (before S a) s) x
  pub still : (k p : ℕ) (label : Name) (e : Expr) (x : Name) → slice_get (hypotheses (before S a) s) k ≡ Some p
      → stmt_at S p ≡ Some (Ess label e) → is_variable (before S p) x ≡ true → is_variable (before S a) x ≡ true
  pub variable : (k p : ℕ) (label constant x : Name) → slice_get (hypotheses (before S a) s) k ≡ Some p
      → stmt_at S p ≡ Some (Float label constant x) → is_variable (before S a) x ≡ true
  pub once : (k j p q : ℕ) (l c m d x : Name) → slice_get (hypotheses (before S a) s) k ≡ Some p
      → slice_get (hypotheses (before S a) s) j ≡ Some q → stmt_at S p ≡ Some (Float l c x)
      → stmt_at S q ≡ Some (Float m d x) → k ≡ j
  pub first : (k p : ℕ) (r : Stmt) → slice_get (hypotheses (before S a) s) k ≡ Some p → stmt_at S p ≡ Some r → BeginsWithNoVariable (before S a) (expr_of r)
  pub own_first : BeginsWithNoVariable (before S a) (expr_of s)
