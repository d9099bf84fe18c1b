-- Simultaneous substitution of images for the symbols of an expression. A symbol is a name, or a
-- number that stands for one.
use Rattle.std.specs.Prelude.{ℕ, suc, Bool, nat_eq, if◌then◌else◌, List, [], ◌∷◌, flat_map}
use Rattle.frame.specs.Words.{Name, name_eq, Expr, decode}

-- the image of a symbol, by its first entry; a symbol without an entry is its own image
abbrev pub image_by : {A : Type 0} → (A → A → Bool) → List (A × List A) → A → List A
image_by same [] x = x ∷ []
image_by same (p ∷ σ) x = if same x p.0 then p.1 else image_by same σ x

-- the expression with all images substituted at once
abbrev pub apply_by : {A : Type 0} → (A → A → Bool) → List (A × List A) → List A → List A
apply_by same σ e = flat_map (image_by same σ) e

-- images over names
abbrev pub Images : Type 0
Images = List (Name × Expr)

-- the image of a name
abbrev pub image : Images → Name → Expr
image σ x = image_by name_eq σ x

-- the expression with the images of names substituted
abbrev pub apply : Images → Expr → Expr
apply σ e = apply_by name_eq σ e

-- images over numbers
abbrev pub CodeImages : Type 0
CodeImages = List (ℕ × List ℕ)

-- the image of a number
abbrev pub code_image : CodeImages → ℕ → List ℕ
code_image σ x = image_by nat_eq σ x

-- the expression with the images of numbers substituted
abbrev pub code_apply : CodeImages → List ℕ → List ℕ
code_apply σ e = apply_by nat_eq σ e

-- the images of the names xs, whose numbers count from n
abbrev pub images_from : List Name → CodeImages → ℕ → List Name → Images
images_from names σ n [] = []
images_from names σ n (x ∷ xs) = (x, decode names (code_image σ n)) ∷ images_from names σ (suc n) xs

-- the images of the names, for each the image of its number
abbrev pub images_of_names : List Name → CodeImages → Images
images_of_names names σ = images_from names σ 0 names
