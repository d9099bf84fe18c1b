-- The first space among eight bytes that are compared at once.
use Rattle.mm_lex.proofs.Prelude.{◌≡◌, ℕ, Bool, cond, nat_eq, List, length, map, position_or_len, ◌∙◌, ap, arith, eqb, replicate, w8, ◌%◌, ◌^◌, zip2, mask_l, top, count_trailing_zeros, bitmask_splat, trailing_mask_l}

abbrev pub is_space : ℕ → Bool
is_space b = nat_eq b 32

-- the mask has a bit for each byte, which is set if the byte is a space
pub mask_of_spaces : (xs : List ℕ) → length xs ≡ 8
    → mask_l (map (top 7) (zip2 (λ a b. cond (eqb a b) 255 0) xs (replicate 8 32))) % 2 ^ 64 ≡ mask_l (map is_space xs)
mask_of_spaces xs long = bitmask_splat w8 eqb xs 8 32 long (omega arith)

-- its lowest set bit is the place of the first space
pub lowest_space : (xs : List ℕ) → length xs ≡ 8 → (m : ℕ) → m ≡ mask_l (map is_space xs) → (m ≡ 0 → ⊥) → count_trailing_zeros 64 m ≡ position_or_len is_space xs
lowest_space xs long m of_spaces some = ap (count_trailing_zeros 64) of_spaces ∙ trailing_mask_l is_space 64 xs (omega (arith, long)) (omega (arith, some, of_spaces))
