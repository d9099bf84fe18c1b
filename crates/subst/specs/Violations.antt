-- Two variables of an assertion whose images are not disjoint.
-- Metamath, 4.2.6: no variable is in both images of two variables that a `$d` makes disjoint, and
-- each pair of variables, one from each image, is in an active `$d`.
-- The code compares the image of each number of a group with those of the numbers before it.
use Rattle.std.specs.Prelude.{◌≡◌, ℕ, ◌<◌, ◌==◌, true, false, List, length, take, get_or, slice_get, Some}
use Rattle.frame.specs.ListsOfPairs.{is_numbered_pair}
use Rattle.frame.specs.MandatoryPairs.{has_number}
use Rattle.frame.specs.NumberedWork.{is_numbered_variable}
use Rattle.subst.specs.Words.{Numbered, CodeImages, code_image}
use Rattle.subst.specs.declared.violation.DisjointViolation.{DisjointViolation}

-- y is one of the numbers other than x, and w a variable of its image; no active `$d` has u and w,
-- or they are the same
pub record IsUnpairedOther (v : Numbered) (σ : CodeImages) (x : ℕ) (numbers : List ℕ) (u y w : ℕ) : Type 0 where
  pub listed : has_number numbers y ≡ true
  pub differ : (x == y) ≡ false
  pub stands : has_number (code_image σ y) w ≡ true
  pub variable : is_numbered_variable v w ≡ true
  pub no_pair : is_numbered_pair v u w ≡ false

-- the violation is of another of the numbers, and of x
pub record IsUnpairedWith (v : Numbered) (σ : CodeImages) (x : ℕ) (numbers : List ℕ) (violation : DisjointViolation) : Type 0 where
  pub second : violation.second ≡ x
  pub stands : has_number (code_image σ x) violation.in_second_image ≡ true
  pub variable : is_numbered_variable v violation.in_second_image ≡ true
  pub first : IsUnpairedOther v σ x numbers violation.in_second_image violation.first violation.in_first_image

-- the violation is of a number of the group, and of one before it
abbrev pub IsViolationOf : Numbered → CodeImages → List ℕ → DisjointViolation → Type 0
IsViolationOf v σ group violation = (i : ℕ) × (i < length group) × IsUnpairedWith v σ (get_or group i 0) (take i group) violation

-- the violation is of two numbers of one of the groups
abbrev pub IsViolation : Numbered → CodeImages → List (List ℕ) → DisjointViolation → Type 0
IsViolation v σ groups violation = (k : ℕ) × (group : List ℕ) × (slice_get groups k ≡ Some group) × IsViolationOf v σ group violation
