-- The images that were read in a citation, and what it has counted so far.
-- Source: this project's profile (docs/COSTS.md).
-- The code reads an image where its number is first met, and counts its symbols then.
use Rattle.std.specs.Prelude.{◌≡◌, ℕ, ◌+◌, Bool, false, nat_eq, nat_lt, IsTrue, List, is_some, Option, Some, None}
use Rattle.frame.specs.MandatoryPairs.{has_number}
use Rattle.frame.specs.NumberedWork.{image_variables, list_work_after, read_after}
use Rattle.subst.specs.Words.{lookup, Numbered, CodeImages}

-- the numbers whose images were read, with the variables of each; the count; and the greatest count
-- that is not past the limit, or `None` if there is no limit
pub record ReadImages : Type 0 where
  pub images : CodeImages
  pub work : ℕ
  pub left : Option ℕ

-- a count is more than the limit, if there is one
abbrev pub is_over : Option ℕ → ℕ → Bool
is_over None count = false
is_over (Some limit) count = nat_lt limit count

-- all that was read are the images σ
pub record HasReadOnly (v : Numbered) (σ : CodeImages) (a : ReadImages) : Type 0 where
  pub each : (x : ℕ) (variables : List ℕ) → lookup (nat_eq x) a.images ≡ Some variables → variables ≡ image_variables v σ x

-- the images of exactly these numbers were read
pub record HasRead (read : List ℕ) (a : ReadImages) : Type 0 where
  pub each : (x : ℕ) → is_some (lookup (nat_eq x) a.images) ≡ has_number read x

-- a list was read after these numbers, whichever they are, and its work counted
pub record HasCounted (v : Numbered) (σ : CodeImages) (list : List ℕ) (old new : ReadImages) : Type 0 where
  pub read : (read : List ℕ) → HasRead read old → HasRead (read_after read list) new
  pub work : (read : List ℕ) → HasRead read old → new.work ≡ old.work + list_work_after v σ read list

-- with a list, whichever numbers were read before, the count is past the limit
abbrev pub IsPastList : Numbered → CodeImages → List ℕ → ReadImages → Type 0
IsPastList v σ list a = (read : List ℕ) → HasRead read a → IsTrue (is_over a.left (a.work + list_work_after v σ read list))
