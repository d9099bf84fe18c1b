-- What the disjoint variable condition of a citation counts in the work of a text.
-- Source: this project's profile (docs/COSTS.md).
-- The code lists the variables of an image once in a citation, and stops at nothing: all pairs are
-- read, also after the first that fails.
use Rattle.std.specs.Prelude.{ℕ, ◌+◌, Bool, not, ◌&&◌, if◌then◌else◌, List, [], ◌∷◌, ◌++◌, length, filter, sum_by}
use Rattle.frame.specs.Words.{list_any, Name, has_name, Stmt, Expr, Database, is_variable}
use Rattle.frame.specs.FrameOf.{is_mandatory_pair}
use Rattle.frame.specs.Substitution.{Images, image}
use Rattle.frame.specs.Sizes.{row, mandatory_variables}

-- the variables of an expression after the statements S, other than those met, each once
abbrev pub new_variables : Database → List Name → Expr → List Name
new_variables S met [] = []
new_variables S met (x ∷ e) =
    if is_variable S x && not (has_name x met) then x ∷ new_variables S (x ∷ met) e else new_variables S met e

-- the variables of an expression, each once
abbrev pub variables_in : Database → Expr → List Name
variables_in S e = new_variables S [] e

-- the variable has a mandatory pair with one of these
abbrev pub has_pair : Database → Stmt → List Name → Name → Bool
has_pair A s others x = list_any (is_mandatory_pair A s x) others

-- the symbols of the images of the variables that are in mandatory pairs
abbrev pub image_work : Database → Stmt → Images → ℕ
image_work A s σ = sum_by (λ x. length (image σ x)) (filter (has_pair A s (mandatory_variables A s)) (mandatory_variables A s))

-- how many variables the images of these variables have, each image by itself
abbrev pub variable_count : Database → Images → List Name → ℕ
variable_count S σ others = sum_by (λ y. length (variables_in S (image σ y))) others

-- for each variable of the image of x: its row, and the variables of the images of the others, with
-- which x is in mandatory pairs; nothing if there are no others
abbrev pub pairs_work : Database → Images → List Name → Name → ℕ
pairs_work S σ [] x = 0
pairs_work S σ others x = sum_by (λ u. row S u + variable_count S σ others) (variables_in S (image σ x))

-- this for each of the variables xs, the others being among those before it
abbrev pub all_pairs_work : Database → Stmt → Database → Images → List Name → List Name → ℕ
all_pairs_work A s S σ before [] = 0
all_pairs_work A s S σ before (x ∷ xs) =
    pairs_work S σ (filter (is_mandatory_pair A s x) before) x + all_pairs_work A s S σ (before ++ x ∷ []) xs

-- the disjointness of a citation after the statements S of the assertion s, which stands after the
-- statements A, with these images of its variables
abbrev pub disjointness : Database → Stmt → Database → Images → ℕ
disjointness A s S σ = image_work A s σ + all_pairs_work A s S σ [] (mandatory_variables A s)
