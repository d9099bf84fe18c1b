-- Examples of substitution and of the disjoint variable condition.
use Rattle.subst.proofs.Words.{◌≡◌, [], ◌∷◌, codes, refl, true, false, before, apply, code_apply, are_disjoint, are_groups_disjoint, w, row_seven}

-- x and y are swapped, since images are substituted simultaneously
swapped : apply ((codes "x", w (codes "y")) ∷ (codes "y", w (codes "x")) ∷ []) (w (codes "|- x R y")) ≡ w (codes "|- y R x")
swapped = refl

-- the same with numbers for the symbols
swapped_numbers : code_apply ((4, 5 ∷ []) ∷ (5, 4 ∷ []) ∷ []) (0 ∷ 4 ∷ 3 ∷ 5 ∷ []) ≡ 0 ∷ 5 ∷ 3 ∷ 4 ∷ []
swapped_numbers = refl

-- an empty image removes x
empty_image : apply ((codes "x", []) ∷ []) (w (codes "|- ( x )")) ≡ w (codes "|- ( )")
empty_image = refl

-- outside the block no `$d` makes x and z disjoint
outside_the_block : are_disjoint (before row_seven 10) (w (codes "x")) (w (codes "z")) ≡ false
outside_the_block = refl

-- in the block its `$d` makes x and z disjoint
inside_the_block : are_disjoint row_seven (w (codes "x")) (w (codes "z")) ≡ true
inside_the_block = refl

-- a variable is never disjoint from itself
shared_variable : are_disjoint row_seven (w (codes "x")) (w (codes "x")) ≡ false
shared_variable = refl

-- a constant may be in both images
shared_constant : are_disjoint row_seven (w (codes "R")) (w (codes "R")) ≡ true
shared_constant = refl

pair_with_itself :
    are_groups_disjoint row_seven ((codes "x", w (codes "x")) ∷ (codes "y", w (codes "x")) ∷ []) (w (codes "x y") ∷ []) ≡ false
pair_with_itself = refl

pair_with_another :
    are_groups_disjoint row_seven ((codes "x", w (codes "x")) ∷ (codes "y", w (codes "z")) ∷ []) (w (codes "x y") ∷ []) ≡ true
pair_with_another = refl
