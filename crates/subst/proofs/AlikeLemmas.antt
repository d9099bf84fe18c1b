-- The length of the common prefix of two lists, found by comparing symbols in lanes.
use Rattle.subst.proofs.Words.{◌≡◌, ℕ, suc, ◌+◌, ◌-◌, ◌≤◌, Bool, true, false, not, cond, List, [], ◌∷◌, length, take, map, refl, sym, ◌∙◌, ap, subst, arith, ◌%◌, ◌^◌, eqb, eqb-true, w32, zip2, mask_l, top, count_trailing_zeros, prefix_len, tops_compared, trailing_mask_l, leading_from_mask_l, mask_l-mod, length-zip2, length-take-le, map-id, prefix_len-le-length, take-take}

abbrev are_other : ℕ → ℕ → Bool
are_other a b = not (eqb a b)

-- two lists are the same up to the first symbols that differ
same : (xs ys : List ℕ) → let n = prefix_len not (zip2 are_other xs ys) in take n xs ≡ take n ys
same [] ys = refl
same (x ∷ xs) [] = refl
same (x ∷ xs) (y ∷ ys) = by (eqb x y) refl (same xs ys)
  where
    by : (t : Bool) → eqb x y ≡ t → take (prefix_len not (zip2 are_other xs ys)) xs ≡ take (prefix_len not (zip2 are_other xs ys)) ys
        → let n = cond (not (not t)) (1 + prefix_len not (zip2 are_other xs ys)) 0 in take n (x ∷ xs) ≡ take n (y ∷ ys)
    by false e rest = refl
    by true e rest =
        let next : suc (prefix_len not (zip2 are_other xs ys)) ≡ 1 + prefix_len not (zip2 are_other xs ys) = omega arith in
        subst (λ n. take n (x ∷ xs) ≡ take n (y ∷ ys)) next (ap (λ z. z ∷ take (prefix_len not (zip2 are_other xs ys)) xs) (eqb-true x y e) ∙ ap (λ s. y ∷ s) rest)

-- the mask of the lanes in which the first sixteen of two lists differ
abbrev mask_of : List ℕ → List ℕ → ℕ
mask_of xs ys = mask_l (map (top 31) (zip2 (λ a b. cond (are_other a b) (2 ^ 32 - 1) 0) (take 16 xs) (take 16 ys))) % 2 ^ 64

module _ (xs ys : List ℕ) (long : 16 ≤ length xs) (other : 16 ≤ length ys) where
  abbrev lanes : List Bool
  lanes = zip2 are_other (take 16 xs) (take 16 ys)

  size : length lanes ≡ 16
  size = length-zip2 are_other (take 16 xs) (take 16 ys) (length-take-le 16 xs long ∙ sym (length-take-le 16 ys other)) ∙ length-take-le 16 xs long

  mask_is : mask_of xs ys ≡ mask_l (map (λ b. b) lanes)
  mask_is =
      ap (λ ms. mask_l ms % 2 ^ 64) (tops_compared w32 are_other (take 16 xs) (take 16 ys))
      ∙ (mask_l-mod lanes 64 (omega (arith, size)) ∙ ap mask_l (sym (map-id lanes)))

  as_far : (n : ℕ) → n ≤ 16 → n ≡ prefix_len not lanes → take n xs ≡ take n ys
  as_far n h e = sym (take-take n 16 xs h) ∙ (subst (λ m. take m (take 16 xs) ≡ take m (take 16 ys)) (sym e) (same (take 16 xs) (take 16 ys)) ∙ take-take n 16 ys h)

  -- if the mask is 0, the first sixteen symbols are the same
  pub all_same : mask_of xs ys ≡ 0 → take 16 xs ≡ take 16 ys
  all_same e = as_far 16 (omega arith) (sym (leading_from_mask_l (λ b. b) lanes (sym mask_is ∙ e) ∙ size))

  -- else the symbols before its lowest bit are the same
  pub first_same : (mask_of xs ys ≡ 0 → ⊥) → let n = count_trailing_zeros 64 (mask_of xs ys) in take n xs ≡ take n ys
  first_same some =
      let first = ap (count_trailing_zeros 64) mask_is ∙ trailing_mask_l (λ b. b) 64 lanes (omega (arith, size)) (omega (arith, some, mask_is)) in
      as_far (count_trailing_zeros 64 (mask_of xs ys)) (omega (arith, first, prefix_len-le-length not lanes, size)) first
