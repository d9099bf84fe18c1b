-- Faults of a citation of an assertion: a hypothesis that requires another result.
-- Source: Metamath, 4.2.6.
-- The code compares numbers; these definitions compare expressions, under the images that the
-- results themselves give.
use Rattle.std.specs.Prelude.{◌≡◌, ◌≢◌, ℕ, List, [], ◌∷◌, map, take, Option, Some, slice_get}
use Rattle.explain.specs.Words.{Name, Stmt, Expr, Database, stmt_at, before, hypotheses, expr_at}
use Rattle.mm_read.specs.declared.stmt.Stmt.TheVariants as stmt
use Rattle.frame.specs.Substitution.{Images, apply as applied}
use Rattle.explain.specs.declared.reason.ItemFault.{ItemFault}
use Rattle.explain.specs.declared.reason.ItemFault.TheVariants.{OtherTypecode, OtherExpression}
use Rattle.explain.specs.Excerpts.{IsExcerptOf}
use Rattle.explain.specs.ReadImages.{images_read}

-- the result that the hypothesis at p requires: its expression with the images substituted
abbrev pub required_result : Database → Images → ℕ → Expr
required_result S σ p = applied σ (expr_at S p)

-- these hypotheses require exactly these results
abbrev pub AllMatch : Database → Images → List ℕ → List Expr → Type 0
AllMatch S σ ps rs = map (required_result S σ) ps ≡ rs

-- the hypothesis with index k, at position p, requires another result than it has; each earlier one
-- has the result that it requires
pub record IsFirstMismatch (S : Database) (σ : Images) (ps : List ℕ) (rs : List Expr) (k p : ℕ) (actual : Expr) : Type 0 where
  pub hypothesis : slice_get ps k ≡ Some p
  pub result : slice_get rs k ≡ Some actual
  pub differ : actual ≢ required_result S σ p
  pub before : AllMatch S σ (take k ps) (take k rs)

-- the expression does not begin with the constant of the `$f`
abbrev pub HasOtherTypecode : Name → Expr → Type 0
HasOtherTypecode constant [] = Unit {0}
HasOtherTypecode constant (x ∷ e) = x ≢ constant

-- the statement is a `$f`, and the expression does not begin with its constant
abbrev pub HasOtherTypecodeThan : Option Stmt → Expr → Type 0
HasOtherTypecodeThan (Some (stmt.Float label constant variable)) e = HasOtherTypecode constant e
HasOtherTypecodeThan s e = ⊥

-- the statement is a `$e`
abbrev pub IsEssential : Option Stmt → Type 0
IsEssential (Some (stmt.Ess label e)) = Unit {0}
IsEssential s = ⊥

-- the first of the mandatory hypotheses of the assertion s at a that requires another result than
-- it has, under the images that the results give: a `$f` and a result with another typecode, or a
-- `$e` and another expression than it requires
abbrev pub IsMismatchFault : Database → List Name → ℕ → Stmt → List Expr → ItemFault → Type 0
IsMismatchFault S names a s rs (OtherTypecode b p result) =
    (b ≡ a)
    × ((k : ℕ) × (actual : Expr) × IsFirstMismatch S (images_read S (hypotheses (before S a) s) rs) (hypotheses (before S a) s) rs k p actual
    × HasOtherTypecodeThan (stmt_at S p) actual × IsExcerptOf names actual result)
IsMismatchFault S names a s rs (OtherExpression b p required result) =
    (b ≡ a)
    × ((k : ℕ) × (actual : Expr) × IsFirstMismatch S (images_read S (hypotheses (before S a) s) rs) (hypotheses (before S a) s) rs k p actual
    × IsEssential (stmt_at S p) × IsExcerptOf names (required_result S (images_read S (hypotheses (before S a) s) rs) p) required × IsExcerptOf names actual result)
IsMismatchFault S names a s rs fault = ⊥
