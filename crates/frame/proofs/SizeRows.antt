-- Examples of sizes, rows and disjointness.
use Rattle.frame.proofs.Words.{◌≡◌, [], ◌∷◌, ◌++◌, codes, refl, Database, before, w, demo_before, demo_mp, demo, rows_front, row_ax, row_seven, row_th}
use Prim.Native.String.{String}
use Rattle.mm_read.specs.declared.stmt.Stmt.TheVariants.{Axiom, Disj}
use Rattle.frame.specs.Substitution.{Images}
use Rattle.frame.specs.Sizes.{row, assertion_size, mandatory_variables}
use Rattle.frame.specs.DisjointWork.{variables_in, disjointness}
use Rattle.frame.specs.NumberedWork.{lists_work}

-- ---- sizes

-- `mp`: four hypotheses, a conclusion of 2 symbols, `$e` of 2 and 6
mp_size : assertion_size demo_before demo_mp ≡ 14
mp_size = refl

-- `tze`: a conclusion of 2 symbols alone
tze_size : assertion_size (before demo 8) (Axiom (codes "tze") (w (codes "term 0"))) ≡ 2
tze_size = refl

-- `ax`: two hypotheses, a conclusion of 4 symbols; x and y each with the 2 variables of their `$d`
ax_size : assertion_size rows_front row_ax ≡ 10
ax_size = refl

-- `th`: one hypothesis, a conclusion of 3 symbols, and the 2 variables of the `$d` of x; the row of
-- z does not count, as z is not mandatory
th_size : assertion_size row_seven row_th ≡ 6
th_size = refl

-- `r`: the `$f` of x and y and the `$e`, a conclusion of 3 symbols, an `$e` of 4; the `$d` of `ax` is
-- no longer active
r_size : assertion_size (before row_seven 12) (Axiom (codes "r") (w (codes "|- R x"))) ≡ 10
r_size = refl

-- ---- rows

abbrev two_lists : Database
two_lists = rows_front ++ Disj (w (codes "z x y")) ∷ []

-- x is listed by `$d x y` and by `$d z x y`, z by the second alone
row_of_two : row two_lists (codes "x") ≡ 5
row_of_two = refl

row_of_one : row two_lists (codes "z") ≡ 3
row_of_one = refl

-- a `$d` of a closed block does not count
row_of_none : row row_seven (codes "y") ≡ 0
row_of_none = refl

-- the mandatory variables are in the order of their `$f`, whatever that of the conclusion
in_order : mandatory_variables two_lists (Axiom (codes "b") (w (codes "|- z R x"))) ≡ w (codes "x z")
in_order = refl

-- ---- disjointness

-- a variable that occurs twice counts once, and a constant does not count
once : variables_in row_seven (w (codes "x R z x")) ≡ w (codes "x z")
once = refl

abbrev with_images : String → String → Images
with_images x y = (codes "x", w (codes x)) ∷ (codes "y", w (codes y)) ∷ []

-- `ax` has the pair of x and y, and y comes after x. With x and z for them, under `$d x z`: images of
-- 1 symbol each; for the one variable z of the image of y, its row of 2 and the one variable x
one_each : disjointness rows_front row_ax row_seven (with_images "x" "z") ≡ 5
one_each = refl

-- the same by number, x being 0, y 1 and z 2, and the list that of y and x
one_each_by_number : lists_work (record { statements = row_seven; names = w (codes "x y z") }) ((0, 0 ∷ []) ∷ (1, 2 ∷ []) ∷ []) ((1 ∷ 0 ∷ []) ∷ []) ≡ 5
one_each_by_number = refl

-- with `x R x` and `x z`: images of 3 and 2 symbols; for x and for z a row of 2, and the one variable
-- x of the other image. That x is in both images ends nothing
all_is_read : disjointness rows_front row_ax row_seven (with_images "x R x" "x z") ≡ 11
all_is_read = refl

-- with `z` and no symbol: the image of 1 symbol; no variable stands in the image of y
empty_after : disjointness rows_front row_ax row_seven (with_images "z" "") ≡ 1
empty_after = refl

-- with no symbol and `z`: the image of 1 symbol, and the row of z
empty_before : disjointness rows_front row_ax row_seven (with_images "" "z") ≡ 3
empty_before = refl

-- an assertion without pairs counts nothing, whatever its images
no_pairs : disjointness (before row_seven 12) (Axiom (codes "r") (w (codes "|- R x"))) row_seven (with_images "x" "x z") ≡ 0
no_pairs = refl

-- three pairs, under the lists `x y` and `z x y`, with each variable for itself: images of 1 symbol
-- each; for y a row of 5 and the variable of x; for z a row of 3 and the variables of x and y
three_pairs : disjointness two_lists (Axiom (codes "b") (w (codes "|- x y z"))) two_lists ((codes "z", w (codes "z")) ∷ with_images "x" "y") ≡ 14
three_pairs = refl
