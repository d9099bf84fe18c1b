-- The first white byte, found as the first byte up to the space, sixteen bytes at a time.
use Rattle.mm_lex.proofs.Prelude.{◌≡◌, ℕ, ◌+◌, ◌<◌, ◌≤◌, Bool, true, false, not, cond, nat_le, nat_lt, List, [], ◌∷◌, length, take, drop, map, refl, list_all, position_or_len, prefix_len, sym, ◌∙◌, ap, arith, leb, ltb, eqb, replicate, w8, ◌%◌, ◌^◌, eqb-true, eqb-false, and_parts, zip2, mask_l, top, count_trailing_zeros, bitmask_splat, tops_compared, zip2_splat_left, mask_l-mod, trailing_mask_l, leading_from_mask_l, length-map, take-append-drop, length-drop, length-take-le, drop-drop, prefix_len-append, list_all-append, is_white, is_allowed, HasOnlyAllowedBytes}

abbrev pub is_low : ℕ → Bool
is_low b = nat_le b 32

-- an allowed byte is white exactly if it is at most the space
pub is_low-white : (b : ℕ) → is_allowed b ≡ true → is_low b ≡ is_white b
is_low-white b h = by (is_low b) (is_white b) refl refl
  where
    by : (s t : Bool) → is_low b ≡ s → is_white b ≡ t → s ≡ t
    by true true e k = refl
    by true false e k = absurd (grind (arith, h, e, k))
    by false true e k = absurd (grind (arith, h, e, k))
    by false false e k = refl

-- ---- a part of a text of allowed bytes

pub allowed-drop : (n : ℕ) (text : List ℕ) → HasOnlyAllowedBytes text → HasOnlyAllowedBytes (drop n text)
allowed-drop n text allowed =
    (and_parts (list_all is_allowed (take n text)) (list_all is_allowed (drop n text)) (sym (list_all-append is_allowed (take n text) (drop n text)) ∙ (ap (list_all is_allowed) (take-append-drop n text) ∙ allowed))).1

pub allowed-take : (n : ℕ) (text : List ℕ) → HasOnlyAllowedBytes text → HasOnlyAllowedBytes (take n text)
allowed-take n text allowed =
    (and_parts (list_all is_allowed (take n text)) (list_all is_allowed (drop n text)) (sym (list_all-append is_allowed (take n text) (drop n text)) ∙ (ap (list_all is_allowed) (take-append-drop n text) ∙ allowed))).0

-- in a text of allowed bytes the first byte that is at most the space is the first white one
pub low_is_white : (text : List ℕ) → HasOnlyAllowedBytes text → position_or_len is_low text ≡ position_or_len is_white text
low_is_white [] allowed = refl
low_is_white (b ∷ text) allowed =
    ap (λ t. cond (not t) (1 + position_or_len is_low text) 0) (is_low-white b (and_parts (is_allowed b) _ allowed).0)
    ∙ ap (λ n. cond (not (is_white b)) (1 + n) 0) (low_is_white text (and_parts (is_allowed b) _ allowed).1)

abbrev pub is_high : ℕ → Bool
is_high b = nat_lt 32 b

is_high-shown : (b : ℕ) → is_allowed b ≡ true → is_high b ≡ not (is_white b)
is_high-shown b h = by (is_high b) (is_white b) refl refl
  where
    by : (s t : Bool) → is_high b ≡ s → is_white b ≡ t → s ≡ not t
    by true false e k = refl
    by true true e k = absurd (grind (arith, h, e, k))
    by false true e k = refl
    by false false e k = absurd (grind (arith, h, e, k))

-- .. and the first byte above the space is the first that is not white
pub high_is_shown : (text : List ℕ) → HasOnlyAllowedBytes text → position_or_len is_high text ≡ position_or_len (λ b. not (is_white b)) text
high_is_shown [] allowed = refl
high_is_shown (b ∷ text) allowed =
    ap (λ t. cond (not t) (1 + position_or_len is_high text) 0) (is_high-shown b (and_parts (is_allowed b) _ allowed).0)
    ∙ ap (λ n. cond (not (not (is_white b))) (1 + n) 0) (high_is_shown text (and_parts (is_allowed b) _ allowed).1)

-- ---- the mask of sixteen bytes

-- the mask has a bit for each byte, which is set if the byte is at most the space
pub mask_of_low : (xs : List ℕ) → length xs ≡ 16
    → mask_l (map (top 7) (zip2 (λ a b. cond (leb a b) 255 0) xs (replicate 16 32))) % 2 ^ 64 ≡ mask_l (map is_low xs)
mask_of_low xs long = bitmask_splat w8 leb xs 16 32 long (omega arith)

module _ (xs : List ℕ) (long : length xs ≡ 16) (m : ℕ) (of_low : m ≡ mask_l (map is_low xs)) (some : m ≡ 0 → ⊥) where
  -- a mask that is not 0 has a bit set
  is_some : 0 < mask_l (map is_low xs)
  is_some = omega (arith, some, of_low)

  -- the lowest set bit of the mask is the place of the first byte that is at most the space
  pub lowest_low : count_trailing_zeros 64 m ≡ position_or_len is_low xs
  lowest_low = ap (count_trailing_zeros 64) of_low ∙ trailing_mask_l is_low 64 xs (omega (arith, long)) is_some

-- the mask has a bit for each byte, which is set if the byte is above the space
pub mask_of_high : (xs : List ℕ) → length xs ≡ 16
    → mask_l (map (top 7) (zip2 (λ a b. cond (ltb a b) 255 0) (replicate 16 32) xs)) % 2 ^ 64 ≡ mask_l (map is_high xs)
mask_of_high xs long =
    ap (λ ms. mask_l ms % 2 ^ 64) (tops_compared w8 ltb (replicate 16 32) xs ∙ zip2_splat_left ltb 32 16 xs long)
    ∙ mask_l-mod (map is_high xs) 64 (omega (arith, length-map xs is_high, long))

module _ (xs : List ℕ) (long : length xs ≡ 16) (m : ℕ) (of_high : m ≡ mask_l (map is_high xs)) where
  -- the lowest set bit of the mask is the place of the first byte above the space
  pub lowest_high : (m ≡ 0 → ⊥) → count_trailing_zeros 64 m ≡ position_or_len is_high xs
  lowest_high some = ap (count_trailing_zeros 64) of_high ∙ trailing_mask_l is_high 64 xs (omega (arith, long)) (omega (arith, some, of_high))

  -- if the mask is 0, none of the sixteen bytes is above the space
  pub none_high : m ≡ 0 → 16 ≡ position_or_len is_high xs
  none_high none = sym (leading_from_mask_l is_high xs (sym of_high ∙ none) ∙ long)

-- if one of the first bytes of a text passes a test, the first byte of the text that passes is
-- among them
pub first_among : (p : ℕ → Bool) (n : ℕ) (text : List ℕ) → position_or_len p (take n text) < length (take n text) → position_or_len p text ≡ position_or_len p (take n text)
first_among p n text few =
    ap (position_or_len p) (sym (take-append-drop n text))
    ∙ (prefix_len-append (λ b. not (p b)) (take n text) (drop n text) ∙ by (eqb (position_or_len p (take n text)) (length (take n text))) refl)
  where
    by : (t : Bool) → eqb (position_or_len p (take n text)) (length (take n text)) ≡ t
        → cond t (length (take n text) + position_or_len p (drop n text)) (position_or_len p (take n text)) ≡ position_or_len p (take n text)
    by true e = absurd (omega (arith, eqb-true _ _ e, few))
    by false e = refl

-- ---- the bytes after those read so far

module _ (text : List ℕ) (at : ℕ) (allowed : HasOnlyAllowedBytes text) (room : at + 16 ≤ length text)
    (seen : position_or_len is_white text ≡ at + position_or_len is_white (drop at text))
    (count : ℕ) (counted : count ≡ position_or_len is_low (take 16 (drop at text))) where
  abbrev next : List ℕ
  next = take 16 (drop at text)

  -- there are sixteen next bytes
  next_len : length next ≡ 16
  next_len = length-take-le 16 (drop at text) (omega (arith, length-drop at text))

  -- the count is the number of them before the first white one
  next_white : count ≡ prefix_len (λ b. not (is_white b)) next
  next_white = counted ∙ low_is_white next (allowed-take 16 (drop at text) (allowed-drop at text allowed))

  -- the number of bytes before a white one, counted in the next sixteen and, if none of these is
  -- white, after them
  parts : prefix_len (λ b. not (is_white b)) (drop at text)
      ≡ cond (eqb (prefix_len (λ b. not (is_white b)) next) (length next)) (length next + prefix_len (λ b. not (is_white b)) (drop 16 (drop at text))) (prefix_len (λ b. not (is_white b)) next)
  parts = ap (prefix_len (λ b. not (is_white b))) (sym (take-append-drop 16 (drop at text))) ∙ prefix_len-append (λ b. not (is_white b)) next (drop 16 (drop at text))

  -- if one of the sixteen is white, the first white byte of the text is the first white one of them
  pub ends_here : count < 16 → position_or_len is_white text ≡ at + count
  ends_here few = by (eqb (prefix_len (λ b. not (is_white b)) next) (length next)) refl
    where
      by : (t : Bool) → eqb (prefix_len (λ b. not (is_white b)) next) (length next) ≡ t → position_or_len is_white text ≡ at + count
      by true e =
          let same = eqb-true (prefix_len (λ b. not (is_white b)) next) (length next) e in
          absurd (omega (arith, same, few, next_white, next_len))
      by false e = seen ∙ ap (λ n. at + n) (parts ∙ (ap (λ t. cond t (length next + prefix_len (λ b. not (is_white b)) (drop 16 (drop at text))) (prefix_len (λ b. not (is_white b)) next)) e ∙ sym next_white))

  -- if none of them is white, the first white byte of the text comes after them
  pub goes_on : count ≡ 16 → position_or_len is_white text ≡ at + count + position_or_len is_white (drop (at + count) text)
  goes_on all = by (eqb (prefix_len (λ b. not (is_white b)) next) (length next)) refl
    where
      rest : drop 16 (drop at text) ≡ drop (at + count) text
      rest = drop-drop 16 at text ∙ ap (λ n. drop (at + n) text) (sym all)

      by : (t : Bool) → eqb (prefix_len (λ b. not (is_white b)) next) (length next) ≡ t
          → position_or_len is_white text ≡ at + count + position_or_len is_white (drop (at + count) text)
      by true e =
          let there = parts ∙ ap (λ t. cond t (length next + prefix_len (λ b. not (is_white b)) (drop 16 (drop at text))) (prefix_len (λ b. not (is_white b)) next)) e in
          let same = ap (prefix_len (λ b. not (is_white b))) rest in
          omega (arith, seen, there, same, next_len, all)
      by false e = absurd (eqb-false (prefix_len (λ b. not (is_white b)) next) (length next) e (sym next_white ∙ (all ∙ sym next_len)))
