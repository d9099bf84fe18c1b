-- The bytes of labels and the spaces among sixteen bytes, found by the lanes of a vector.
use Rattle.proof_code.proofs.Words.{◌≡◌, ℕ, zero, suc, ◌+◌, ◌-◌, ◌*◌, ◌<◌, ◌≤◌, true, false, cond, ◌==◌, List, [], ◌∷◌, length, take, refl, sym, ◌∙◌, ap, arith, map, get_or, slice_index_or, range_with_len, get_or-map-range_with_len, cases_Bool, inl, inr, is_label_byte_or_space, are_label_bytes_or_spaces, count_by, not, ltb, eqb, replicate, w8, Fits, ◌%◌, ◌^◌, bit_and, bit_or, zip2, mask_l, top, count_ones, bitmask_splat, mask_l-mod, ones-mask_l, length-map, length-take-le, count_by-le-length}

-- ---- one lane

abbrev same : ℕ → ℕ → ℕ
same a b = cond (eqb a b) 255 0

abbrev unlike : ℕ → ℕ → ℕ
unlike a b = cond (not (eqb a b)) 255 0

abbrev below : ℕ → ℕ → ℕ
below a b = cond (ltb a b) 255 0

abbrev less : ℕ → ℕ → ℕ
less a b = (a + (2 ^ 8 - b)) % 2 ^ 8

abbrev lane : ℕ → ℕ
lane b = bit_and (bit_and (bit_and (unlike b 32) (below 25 (less (bit_or b 32) 97))) (bit_or (below 12 (less b 45)) (same (less b 45) 2))) (unlike b 95)

-- for each byte, the top bit is set exactly if it is neither a byte of a label nor a space
lane_table : map (λ b. top 7 (lane b)) (range_with_len 0 256) ≡ map (λ b. not (is_label_byte_or_space b)) (range_with_len 0 256)
lane_table = refl

lane_is : (b : ℕ) → b < 256 → top 7 (lane b) ≡ not (is_label_byte_or_space b)
lane_is b h =
    sym (get_or-map-range_with_len (λ b. top 7 (lane b)) 0 256 b b true h (omega arith))
    ∙ (ap (λ ts. get_or ts b true) lane_table ∙ get_or-map-range_with_len (λ b. not (is_label_byte_or_space b)) 0 256 b b true h (omega arith))

-- ---- sixteen lanes

abbrev compared : ℕ → List ℕ → List ℕ
compared n xs =
    zip2 bit_and (zip2 bit_and (zip2 bit_and (zip2 unlike xs (replicate n 32)) (zip2 below (replicate n 25) (zip2 less (zip2 bit_or xs (replicate n 32)) (replicate n 97))))
    (zip2 bit_or (zip2 below (replicate n 12) (zip2 less xs (replicate n 45))) (zip2 same (zip2 less xs (replicate n 45)) (replicate n 2)))) (zip2 unlike xs (replicate n 95))

compared_is : (n : ℕ) (text : List ℕ) → n ≤ length text → ((i : ℕ) → Fits w8 (slice_index_or text i 0)) → map (top 7) (compared n (take n text)) ≡ map (λ b. not (is_label_byte_or_space b)) (take n text)
compared_is zero text room bytes = refl
compared_is (suc n) [] room bytes = absurd (omega (arith, room))
compared_is (suc n) (b ∷ text) room bytes =
    ap (λ t. t ∷ map (top 7) (compared n (take n text))) (lane_is b (bytes 0).fits)
    ∙ ap (λ ts. not (is_label_byte_or_space b) ∷ ts) (compared_is n text (omega (arith, room)) (λ i. bytes (suc i)))

none_other : (bytes : List ℕ) → mask_l (map (λ b. not (is_label_byte_or_space b)) bytes) ≡ 0 → are_label_bytes_or_spaces bytes ≡ true
none_other [] e = refl
none_other (b ∷ bytes) e =
    elim (cases_Bool (is_label_byte_or_space b)) [
      | inl t ↦ rw t (none_other bytes (let rest : cond (not true) 1 0 + 2 * mask_l (map (λ b. not (is_label_byte_or_space b)) bytes) ≡ 0 = rw t at e in omega (arith, rest)))
      | inr f ↦ absurd (let rest : cond (not false) 1 0 + 2 * mask_l (map (λ b. not (is_label_byte_or_space b)) bytes) ≡ 0 = rw f at e in omega (arith, rest))
    ]

module _ (text : List ℕ) (room : 16 ≤ length text) where
  -- if the mask of the other bytes is 0, each byte is a byte of a label or a space
  pub all-listed : ((i : ℕ) → Fits w8 (slice_index_or text i 0)) → mask_l (map (top 7) (compared 16 (take 16 text))) % 2 ^ 64 ≡ 0 → are_label_bytes_or_spaces (take 16 text) ≡ true
  all-listed bytes none =
      none_other (take 16 text) (sym (mask_l-mod (map (λ b. not (is_label_byte_or_space b)) (take 16 text)) 64 (omega (arith, length-map (take 16 text) (λ b. not (is_label_byte_or_space b)), length-take-le 16 text room)))
      ∙ (ap (λ ts. mask_l ts % 2 ^ 64) (sym (compared_is 16 text room bytes)) ∙ none))

  -- the mask of the spaces has as many set bits as there are spaces
  pub spaces-listed_count : count_ones (mask_l (map (top 7) (zip2 same (take 16 text) (replicate 16 32))) % 2 ^ 64) ≡ count_by (λ b. b == 32) (take 16 text)
  spaces-listed_count = ap count_ones (bitmask_splat w8 eqb (take 16 text) 16 32 (length-take-le 16 text room) (omega arith)) ∙ ones-mask_l (λ b. b == 32) (take 16 text)

  pub spaces-few : (spaces : ℕ) → spaces ≡ count_by (λ b. b == 32) (take 16 text) → spaces ≤ 16
  spaces-few spaces are = omega (arith, are, count_by-le-length (λ b. b == 32) (take 16 text), length-take-le 16 text room)
