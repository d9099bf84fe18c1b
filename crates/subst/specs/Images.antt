-- Images over numbers as images of names.
-- Source: this project's representation of names; images of variables are Metamath, 4.2.6.
-- The code goes through the mandatory pairs one variable at a time.
use Rattle.std.specs.Prelude.{ℕ, ◌<◌, Bool, ◌||◌, List, length}
use Rattle.subst.specs.Words.{list_all, Name, name_eq, Expr, Database, Numbered, CodeImages, Images, code_image, decode, image, images_of_names, are_disjoint, is_list_disjoint, AreBelow}

-- the image of each number that stands for a name has only such numbers
abbrev pub AreOver : List Name → CodeImages → Type 0
AreOver names σ = (n : ℕ) → n < length names → AreBelow (length names) (code_image σ n)

-- the image of a name, by images of numbers
abbrev pub image_of_name : List Name → CodeImages → Name → Expr
image_of_name names σ x = image (images_of_names names σ) x

-- whether the image of the first number of a list, by numbers, is disjoint from those of the others
abbrev pub is_numbered_list_disjoint : Numbered → CodeImages → List ℕ → Bool
is_numbered_list_disjoint v σ list = is_list_disjoint v.statements (images_of_names v.names σ) (decode v.names list)

-- whether this holds for each of the lists
abbrev pub are_numbered_lists_disjoint : Numbered → CodeImages → List (List ℕ) → Bool
are_numbered_lists_disjoint v σ lists = list_all (is_numbered_list_disjoint v σ) lists

-- the image e of x is disjoint from those of the other names
abbrev pub is_image_disjoint : Database → Images → List Name → Name → Expr → Bool
is_image_disjoint S σ names x e = list_all (λ y. name_eq x y || are_disjoint S e (image σ y)) names
