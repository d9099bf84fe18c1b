-- The results that a citation of an assertion takes, one for each of its mandatory hypotheses:
-- correct, or wrong.
-- Source: Metamath, 4.2.6.
-- The code reads the images off the results and tests them; it does not compute the conclusion.
use Rattle.std.specs.Prelude.{◌≡◌, ℕ, IsTrue, List}
use Rattle.explain.specs.Words.{Name, Stmt, Expr, Database, before, hypotheses, mandatory_groups, are_groups_disjoint}
use Rattle.frame.specs.Substitution.{Images}
use Rattle.explain.specs.declared.reason.ItemFault.{ItemFault}
use Rattle.explain.specs.declared.reason.ItemFault.TheVariants.{NotDisjoint, OtherTypecode, OtherExpression}
use Rattle.explain.specs.ReadImages.{images_read}
use Rattle.explain.specs.DisjointViolations.{IsViolation}
use Rattle.explain.specs.CitationFaults.{AllMatch, IsMismatchFault}

-- the images that the results give
abbrev pub images_of : Database → ℕ → Stmt → List Expr → Images
images_of S a s rs = images_read S (hypotheses (before S a) s) rs

-- each hypothesis requires the result that it has
abbrev pub ResultsMatch : Database → ℕ → Stmt → List Expr → Type 0
ResultsMatch S a s rs = AllMatch S (images_of S a s rs) (hypotheses (before S a) s) rs

-- each hypothesis requires the result that it has, and the images are disjoint
pub record AreCorrectResults (S : Database) (at a : ℕ) (s : Stmt) (rs : List Expr) : Type 0 where
  pub fit : ResultsMatch S a s rs
  pub disjoint : IsTrue (are_groups_disjoint (before S at) (images_of S a s rs) (mandatory_groups (before S a) s))

-- the fault of the results: the first mismatch, or two variables that violate the disjoint variable
-- condition
abbrev pub IsResultsFault : Database → List Name → ℕ → ℕ → Stmt → List Expr → ItemFault → Type 0
IsResultsFault S names at a s rs (OtherTypecode b p actual) = IsMismatchFault S names a s rs (OtherTypecode b p actual)
IsResultsFault S names at a s rs (OtherExpression b p required actual) = IsMismatchFault S names a s rs (OtherExpression b p required actual)
IsResultsFault S names at a s rs (NotDisjoint b x y u v) =
    (b ≡ a) × ResultsMatch S a s rs
    × IsViolation (before S at) names (images_of S a s rs) (mandatory_groups (before S a) s) (record { first = x; second = y; in_first_image = u; in_second_image = v })
IsResultsFault S names at a s rs fault = ⊥
