-- Two variables of an assertion whose images are not disjoint.
-- Source: Metamath, 4.2.6 (the disjoint variable condition).
-- The code tests images of numbers; here they are of names.
use Rattle.std.specs.Prelude.{List, IsTrue, IsFalse}
use Rattle.explain.specs.Words.{Name, has_name, Expr, Database, is_variable, name_at, is_pair, together, Images, image}
use Rattle.subst.specs.declared.violation.DisjointViolation.{DisjointViolation}

-- two variables that no active `$d` has together, or a variable and itself
pub record IsUnpaired (S : Database) (u v : Name) : Type 0 where
  pub first : IsTrue (is_variable S u)
  pub second : IsTrue (is_variable S v)
  pub no_pair : IsFalse (is_pair S u v)

-- u occurs in one expression, v in the other, and they are unpaired
pub record AreUnpairedIn (S : Database) (u v : Name) (e f : Expr) : Type 0 where
  pub first : IsTrue (has_name u e)
  pub second : IsTrue (has_name v f)
  pub unpaired : IsUnpaired S u v

-- two variables that are together in a group, with unpaired variables of their images
pub record IsViolation (S : Database) (names : List Name) (σ : Images) (groups : List (List Name)) (violation : DisjointViolation) : Type 0 where
  pub together : IsTrue (together groups (name_at names violation.first) (name_at names violation.second))
  pub unpaired : AreUnpairedIn S (name_at names violation.in_first_image) (name_at names violation.in_second_image) (image σ (name_at names violation.first)) (image σ (name_at names violation.second))
