-- The disjoint variable condition over numbers.
-- Metamath, 4.2.6: no variable is in both images of two variables that a `$d` makes disjoint, and
-- each pair of variables, one from each image, is in an active `$d`.
-- The code decides `is_list_disjoint` over numbers.
use Rattle.std.specs.Prelude.{ℕ, Bool, ◌||◌, ◌==◌, List}
use Rattle.subst.specs.Words.{list_all, Name, Expr, Database, decode, CodeImages, code_image, are_disjoint}

-- the image of a number, by names
abbrev pub image_named : List Name → CodeImages → ℕ → Expr
image_named names σ n = decode names (code_image σ n)

-- the numbers are equal, or their images are disjoint
abbrev pub are_two_disjoint : Database → (ℕ → Expr) → ℕ → ℕ → Bool
are_two_disjoint D image k l = (k == l) || are_disjoint D (image k) (image l)

-- the image of k is disjoint from those of the other numbers of the group
abbrev pub is_number_disjoint : Database → (ℕ → Expr) → List ℕ → ℕ → Bool
is_number_disjoint D image group k = list_all (are_two_disjoint D image k) group

-- the images of every two different numbers of the group are disjoint
abbrev pub are_numbers_disjoint : Database → (ℕ → Expr) → List ℕ → Bool
are_numbers_disjoint D image group = list_all (is_number_disjoint D image group) group
