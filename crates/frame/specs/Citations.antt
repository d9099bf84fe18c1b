-- A citation of a statement: of an active hypothesis, or of an earlier assertion with images for
-- its variables.
-- Metamath, 4.2.6: the substituted mandatory hypotheses of a cited assertion are the results that
-- it takes.
-- The code knows no images: it reads them off the results.
use Rattle.std.specs.Prelude.{◌≡◌, ℕ, ◌<◌, Bool, true, false, IsTrue, List, [], map, Option, Some, None}
use Rattle.frame.specs.Words.{list_all, Name, Stmt, Expr, Database, stmt_at, before, is_active, is_variable, is_assertion, expr_of, label_of}
use Rattle.mm_read.specs.declared.stmt.Stmt.TheVariants.{Float, Ess}
use Rattle.frame.specs.FrameOf.{hypotheses, mandatory_groups}
use Rattle.frame.specs.Substitution.{Images, apply as applied}
use Rattle.frame.specs.Disjoint.{are_groups_disjoint}

-- the statement at i is s and has the label
pub record Carries (S : Database) (i : ℕ) (s : Stmt) (label : Name) : Type 0 where
  pub stands : stmt_at S i ≡ Some s
  pub carried : label_of s ≡ Some label

-- the statement is a `$f` or a `$e`
abbrev pub is_hypothesis_kind : Stmt → Bool
is_hypothesis_kind (Float label constant variable) = true
is_hypothesis_kind (Ess label expr) = true
is_hypothesis_kind s = false

-- the hypothesis i is active at `at`
pub record IsHypothesis (S : Database) (at i : ℕ) (s : Stmt) : Type 0 where
  pub stands : stmt_at S i ≡ Some s
  pub kind : IsTrue (is_hypothesis_kind s)
  pub active : IsTrue (is_active S i at)

-- each name that has an image is a variable at a
abbrev pub AreImagesOfVariables : Database → ℕ → Images → Type 0
AreImagesOfVariables S a σ = IsTrue (list_all (λ p. is_variable (before S a) p.0) σ)

-- the assertion a may be cited at `at` with these images of its variables
pub record IsInstance (S : Database) (at a : ℕ) (s : Stmt) (σ : Images) : Type 0 where
  pub earlier : a < at
  pub stands : stmt_at S a ≡ Some s
  pub assertion : IsTrue (is_assertion s)
  pub of_variables : AreImagesOfVariables S a σ
  pub disjoint : IsTrue (are_groups_disjoint (before S at) σ (mandatory_groups (before S a) s))

-- the expression of a statement, or nothing if there is none
abbrev pub option_expr : Option Stmt → Expr
option_expr None = []
option_expr (Some s) = expr_of s

-- the expression of the statement at i
abbrev pub expr_at : Database → ℕ → Expr
expr_at S i = option_expr (stmt_at S i)

-- the substituted mandatory hypotheses, in order
abbrev pub premises : Database → ℕ → Stmt → Images → List Expr
premises S a s σ = map (λ i. applied σ (expr_at S i)) (hypotheses (before S a) s)
