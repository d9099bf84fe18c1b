-- The length of a spaced prefix, found sixteen bytes at a time, each in a lane of a vector.
use Rattle.mm_lex.proofs.Prelude.{◌≡◌, ℕ, ◌+◌, ◌<◌, ◌≤◌, zero, suc, Bool, true, false, not, cond, ◌&&◌, ◌||◌, List, [], ◌∷◌, length, take, drop, map, refl, prefix_len, sym, ◌∙◌, ap, arith, leb, ltb, eqb, replicate, ◌%◌, ◌^◌, bit_or, bit_and, zip2, mask_l, top, count_trailing_zeros, trailing_mask_l, leading_from_mask_l, mask_l-mod, length-zip2, length-drop, drop-drop, prefix_len-le-length, spaced_prefix_len, ends_here, ends_between, lanes_end}

-- ---- one lane

abbrev set : Bool → ℕ
set t = cond t 255 0

-- the top bit of a lane is set exactly if the byte is low, is `$`, or is a space with a byte up to
-- `$` after it
lane : (low dollar space next : Bool) → top 7 (bit_or (bit_or (set low) (set dollar)) (bit_and (set space) (set next))) ≡ (low || dollar || (space && next))
lane true true true true = refl
lane true true true false = refl
lane true true false true = refl
lane true true false false = refl
lane true false true true = refl
lane true false true false = refl
lane true false false true = refl
lane true false false false = refl
lane false true true true = refl
lane false true true false = refl
lane false true false true = refl
lane false true false false = refl
lane false false true true = refl
lane false false true false = refl
lane false false false true = refl
lane false false false false = refl

-- ---- the mask of the bytes and the bytes after each

abbrev below : ℕ → ℕ → ℕ
below a b = cond (ltb a b) 255 0

abbrev same : ℕ → ℕ → ℕ
same a b = cond (eqb a b) 255 0

abbrev up_to : ℕ → ℕ → ℕ
up_to a b = cond (leb a b) 255 0

abbrev compared : ℕ → List ℕ → List ℕ → List ℕ
compared n xs ys =
    zip2 bit_or (zip2 bit_or (zip2 below xs (replicate n 32)) (zip2 same xs (replicate n 36)))
    (zip2 bit_and (zip2 up_to xs (replicate n 32)) (zip2 up_to ys (replicate n 36)))

-- the top bit of each lane says whether the symbols end there
compared_is : (n : ℕ) (xs ys : List ℕ) → length xs ≡ n → length ys ≡ n → map (top 7) (compared n xs ys) ≡ lanes_end xs ys
compared_is zero [] ys e f = refl
compared_is zero (x ∷ xs) ys e f = absurd (omega (arith, e))
compared_is (suc n) [] ys e f = absurd (omega (arith, e))
compared_is (suc n) (x ∷ xs) [] e f = absurd (omega (arith, f))
compared_is (suc n) (x ∷ xs) (y ∷ ys) e f =
    ap (λ t. t ∷ map (top 7) (compared n xs ys)) (lane (ltb x 32) (eqb x 36) (leb x 32) (leb y 36))
    ∙ ap (λ ts. ends_between x y ∷ ts) (compared_is n xs ys (omega (arith, e)) (omega (arith, f)))

map-same : (ms : List Bool) → map (λ b. b) ms ≡ ms
map-same [] = refl
map-same (m ∷ ms) = ap (λ r. m ∷ r) (map-same ms)

module _ (xs ys : List ℕ) (long : length xs ≡ 16) (other : length ys ≡ 16) where
  -- there are sixteen results, one for each lane
  ends_len : length (lanes_end xs ys) ≡ 16
  ends_len = length-zip2 ends_between xs ys (omega (arith, long, other)) ∙ long

  -- the mask of the vectors is the mask of these results
  mask_is : mask_l (map (top 7) (compared 16 xs ys)) % 2 ^ 64 ≡ mask_l (map (λ b. b) (lanes_end xs ys))
  mask_is =
      ap (λ ms. mask_l ms % 2 ^ 64) (compared_is 16 xs ys long other)
      ∙ (mask_l-mod (lanes_end xs ys) 64 (omega (arith, ends_len)) ∙ ap mask_l (sym (map-same (lanes_end xs ys))))

  -- if the mask is 0, the symbols end at none of the sixteen bytes
  pub none_set : mask_l (map (top 7) (compared 16 xs ys)) % 2 ^ 64 ≡ 0 → 16 ≡ prefix_len not (lanes_end xs ys)
  none_set e = sym (leading_from_mask_l (λ b. b) (lanes_end xs ys) (sym mask_is ∙ e) ∙ ends_len)

  -- otherwise its lowest set bit is the first place where they end
  pub first_set : (mask_l (map (top 7) (compared 16 xs ys)) % 2 ^ 64 ≡ 0 → ⊥)
      → count_trailing_zeros 64 (mask_l (map (top 7) (compared 16 xs ys)) % 2 ^ 64) ≡ prefix_len not (lanes_end xs ys)
  first_set some =
      ap (count_trailing_zeros 64) mask_is
      ∙ trailing_mask_l (λ b. b) 64 (lanes_end xs ys) (omega (arith, ends_len)) (omega (arith, some, mask_is))

  -- at most sixteen bytes come before that place
  pub few_set : prefix_len not (lanes_end xs ys) ≤ 16
  few_set = omega (arith, prefix_len-le-length not (lanes_end xs ys), ends_len)

-- ---- from the lanes to the bytes

abbrev pub lanes_count : ℕ → List ℕ → ℕ
lanes_count k xs = prefix_len not (lanes_end (take k xs) (take k (drop 1 xs)))

abbrev Counts : ℕ → List ℕ → ℕ → Type 0
Counts k xs n = (n < k → spaced_prefix_len xs ≡ n) × (k ≤ n → spaced_prefix_len xs ≡ k + spaced_prefix_len (drop k xs))

-- with one more byte in front, the spaced prefix still ends in the lanes, or still continues after
-- them
counts_step : (t : Bool) (k s n r : ℕ) → (n < k → s ≡ n) × (k ≤ n → s ≡ k + r)
    → (cond (not t) (1 + n) 0 < suc k → cond t zero (suc s) ≡ cond (not t) (1 + n) 0) × (suc k ≤ cond (not t) (1 + n) 0 → cond t zero (suc s) ≡ suc k + r)
counts_step true k s n r h = (λ lt. refl, λ le. absurd (omega (arith, le)))
counts_step false k s n r h = (λ lt. omega (arith, h.0 (omega (arith, lt))), λ le. omega (arith, h.1 (omega (arith, le))))

-- the count in the first lanes is the length of the spaced prefix, if it ends there; otherwise it
-- continues after them
counts : (k : ℕ) (xs : List ℕ) → k < length xs → Counts k xs (lanes_count k xs)
counts zero xs room = (λ lt. absurd (omega (arith, lt)), λ le. omega arith)
counts (suc k) [] room = absurd (omega (arith, room))
counts (suc k) (b ∷ []) room = absurd (omega (arith, room))
counts (suc k) (b ∷ c ∷ xs) room =
    counts_step (ends_between b c) k (spaced_prefix_len (c ∷ xs)) (lanes_count k (c ∷ xs)) (spaced_prefix_len (drop k (c ∷ xs))) (counts k (c ∷ xs) (omega (arith, room)))

-- ---- the bytes after those read so far

module _ (text : List ℕ) (at : ℕ) (room : at + 16 < length text) (seen : spaced_prefix_len text ≡ at + spaced_prefix_len (drop at text)) (count : ℕ) (counted : count ≡ lanes_count 16 (drop at text)) where
  -- the count in the next sixteen lanes of the text
  both : Counts 16 (drop at text) count
  both = rw counted (counts 16 (drop at text) (omega (arith, room, length-drop at text)))

  -- if the symbols end in these lanes, the spaced prefix of the text ends there
  pub prefix_ends : count < 16 → spaced_prefix_len text ≡ at + count
  prefix_ends few = omega (arith, seen, both.0 few)

  -- if they do not, it continues after the lanes
  pub prefix_goes_on : count ≡ 16 → spaced_prefix_len text ≡ at + count + spaced_prefix_len (drop (at + count) text)
  prefix_goes_on all =
      let rest : drop 16 (drop at text) ≡ drop (at + count) text = drop-drop 16 at text ∙ ap (λ n. drop (at + n) text) (sym all) in
      let there = both.1 (omega (arith, all)) in
      omega (arith, seen, there, ap spaced_prefix_len rest, all)

-- ---- one more byte

-- if the symbols do not end at the first byte, the length is one plus that of the rest
one_step : (t : Bool) (s : ℕ) → t ≡ false → cond t zero (suc s) ≡ suc s
one_step true s e = cc
one_step false s e = refl

-- if the symbols do not end at the first byte, the spaced prefix is that byte and the spaced prefix
-- after it
prefix_byte : (xs : List ℕ) → 0 < length xs → ends_here xs ≡ false → spaced_prefix_len xs ≡ suc (spaced_prefix_len (drop 1 xs))
prefix_byte [] some e = absurd (omega (arith, some))
prefix_byte (b ∷ xs) some e = one_step (ends_here (b ∷ xs)) (spaced_prefix_len xs) e

-- if the symbols do not end at the next byte of the text, it belongs to the spaced prefix
pub prefix_one : (text : List ℕ) (at : ℕ) → at < length text → spaced_prefix_len text ≡ at + spaced_prefix_len (drop at text) → ends_here (drop at text) ≡ false
    → spaced_prefix_len text ≡ at + 1 + spaced_prefix_len (drop (at + 1) text)
prefix_one text at inside seen e =
    let next = prefix_byte (drop at text) (omega (arith, length-drop at text, inside)) e in
    let rest : drop 1 (drop at text) ≡ drop (at + 1) text = drop-drop 1 at text in
    omega (arith, seen, next, ap spaced_prefix_len rest)
