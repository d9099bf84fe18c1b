-- What the disjoint variable condition of a citation counts in the work of a text, by numbers.
-- Source: this project's profile (docs/COSTS.md).
-- The code goes through the lists of the mandatory pairs, and reads an image where its number is
-- first met.
use Rattle.std.specs.Prelude.{ℕ, ◌+◌, ◌==◌, Bool, not, if◌then◌else◌, List, [], ◌∷◌, ◌++◌, length, filter, sum_by}
use Rattle.frame.specs.Words.{is_variable, name_at}
use Rattle.frame.specs.MandatoryPairs.{has_number}
use Rattle.frame.specs.Parts.{Numbered}
use Rattle.frame.specs.Sizes.{row}
use Rattle.frame.specs.Substitution.{CodeImages, code_image}

-- the numbers of a list other than those met, each once, in the order in which they are met
abbrev pub new_numbers : List ℕ → List ℕ → List ℕ
new_numbers met [] = []
new_numbers met (x ∷ xs) = if has_number met x then new_numbers met xs else x ∷ new_numbers (x ∷ met) xs

-- the number stands for a variable
abbrev pub is_numbered_variable : Numbered → ℕ → Bool
is_numbered_variable v u = is_variable v.statements (name_at v.names u)

-- the variables of an expression, each once, in the order in which they are met
abbrev pub numbered_variables : Numbered → List ℕ → List ℕ
numbered_variables v codes = filter (is_numbered_variable v) (new_numbers [] codes)

-- the row of a variable
abbrev pub numbered_row : Numbered → ℕ → ℕ
numbered_row v u = row v.statements (name_at v.names u)

-- the variables of the image of a number
abbrev pub image_variables : Numbered → CodeImages → ℕ → List ℕ
image_variables v σ x = numbered_variables v (code_image σ x)

-- how many variables the images of these numbers have, each image by itself
abbrev pub numbered_variable_count : Numbered → CodeImages → List ℕ → ℕ
numbered_variable_count v σ others = sum_by (λ y. length (image_variables v σ y)) others

-- those of the numbers that are not x
abbrev pub numbers_but : ℕ → List ℕ → List ℕ
numbers_but x others = filter (λ y. not (x == y)) others

-- for each variable of the image of the first number of a list: its row, and the variables of the
-- images of the others
abbrev pub list_work : Numbered → CodeImages → List ℕ → ℕ
list_work v σ [] = 0
list_work v σ (x ∷ others) = sum_by (λ u. numbered_row v u + numbered_variable_count v σ (numbers_but x others)) (image_variables v σ x)

-- the symbols of the images of these numbers
abbrev pub images_length : CodeImages → List ℕ → ℕ
images_length σ numbers = sum_by (λ x. length (code_image σ x)) numbers

-- the numbers whose images were read after those of a list, if these were read before
abbrev pub read_after : List ℕ → List ℕ → List ℕ
read_after read list = read ++ new_numbers read list

-- the same after several lists, one after another
abbrev pub read_all : List ℕ → List (List ℕ) → List ℕ
read_all read [] = read
read_all read (list ∷ lists) = read_all (read_after read list) lists

-- what a list counts if the images of these numbers were read before
abbrev pub list_work_after : Numbered → CodeImages → List ℕ → List ℕ → ℕ
list_work_after v σ read list = images_length σ (new_numbers read list) + list_work v σ list

-- what lists count, one after another, if the images of these numbers were read before
abbrev pub lists_work_after : Numbered → CodeImages → List ℕ → List (List ℕ) → ℕ
lists_work_after v σ read [] = 0
lists_work_after v σ read (list ∷ lists) = list_work_after v σ read list + lists_work_after v σ (read_after read list) lists

-- what the lists of the mandatory pairs of a cited assertion count
abbrev pub lists_work : Numbered → CodeImages → List (List ℕ) → ℕ
lists_work v σ lists = lists_work_after v σ [] lists
