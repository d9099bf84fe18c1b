-- Symbols with one space between two: a spaced prefix has this form, and the words of bytes of this
-- form are symbols.
use Rattle.mm_lex.proofs.Prelude.{◌≡◌, ℕ, ◌<◌, zero, suc, Bool, true, false, not, cond, ◌&&◌, ◌||◌, ◌==◌, List, [], ◌∷◌, take, refl, list_all, slice_split, onto_first, sym, ◌∙◌, ap, arith, and_from, and_parts, Name, is_white, is_visible, is_allowed, is_empty_or_starts_white, is_symbol, has_byte, is_empty, HasOnlyAllowedBytes, spaced_prefix_len, ends_here, ends_between}
use Rattle.mm_lex.proofs.WordsLemmas.{first_part}

abbrev pub is_space : ℕ → Bool
is_space c = c == 32

-- whether a symbol can have the byte
abbrev pub is_symbol_byte : ℕ → Bool
is_symbol_byte b = is_visible b && not (b == 36)

-- whether the bytes are symbols with one space between two
abbrev pub is_single_spaced : List ℕ → Bool
is_single_spaced [] = false
is_single_spaced (b ∷ []) = is_symbol_byte b
is_single_spaced (b ∷ c ∷ bytes) = is_symbol_byte b && cond (is_space c) (is_single_spaced bytes) (is_single_spaced (c ∷ bytes))

-- ---- a spaced prefix is single-spaced

-- a byte that is not white, and at which the symbols do not end, is a byte of a symbol
shown_byte : (b next : ℕ) → is_allowed b ≡ true → is_white b ≡ false → ends_between b next ≡ false → is_symbol_byte b ≡ true
shown_byte b next h white goes = grind (arith, h, white, goes)

-- if the symbols do not end at a space, the byte after it is above `$`
space_byte : (c next : ℕ) → is_space c ≡ true → ends_between c next ≡ false → 36 < next
space_byte c next e goes = grind (arith, e, goes)

-- the symbols do not end at a byte above `$`, and it is not white
above_dollar : (d next : ℕ) → 36 < d → (ends_between d next ≡ false) × (is_white d ≡ false)
above_dollar d next h = (grind (arith, h), grind (arith, h))

-- a byte other than a space, at which the symbols do not end, is not white
other_byte : (c next : ℕ) → is_allowed c ≡ true → is_space c ≡ false → ends_between c next ≡ false → is_white c ≡ false
other_byte c next h e goes = grind (arith, h, e, goes)

-- a byte of a symbol before single-spaced bytes, with or without a space between, makes
-- single-spaced bytes
single_spaced_cons : (b c : ℕ) (bytes : List ℕ) (t : Bool) → is_space c ≡ t → is_symbol_byte b ≡ true → cond t (is_single_spaced bytes) (is_single_spaced (c ∷ bytes)) ≡ true → is_single_spaced (b ∷ c ∷ bytes) ≡ true
single_spaced_cons b c bytes t e h k = and_from (is_symbol_byte b) _ h (ap (λ u. cond u (is_single_spaced bytes) (is_single_spaced (c ∷ bytes))) e ∙ k)

-- if the symbols do not end at the first byte, it belongs to the spaced prefix
prefix_on : (b : ℕ) (bytes : List ℕ) → ends_here (b ∷ bytes) ≡ false → spaced_prefix_len (b ∷ bytes) ≡ suc (spaced_prefix_len bytes)
prefix_on b bytes e = rw e refl

-- if the symbols end at the first byte, the spaced prefix is empty
prefix_off : (b : ℕ) (bytes : List ℕ) → ends_here (b ∷ bytes) ≡ true → spaced_prefix_len (b ∷ bytes) ≡ zero
prefix_off b bytes e = rw e refl

-- the spaced prefix of the bytes
abbrev rest_of : List ℕ → List ℕ
rest_of bytes = take (spaced_prefix_len bytes) bytes

-- a byte that is not white, and at which the symbols do not end, and the spaced prefix after it are
-- single-spaced
abbrev PrefixIsSingleSpaced : ℕ → List ℕ → Type 0
PrefixIsSingleSpaced b bytes = is_white b ≡ false → ends_here (b ∷ bytes) ≡ false → is_single_spaced (b ∷ rest_of bytes) ≡ true

-- the claim for two bytes, from the claim for the second one
last_two : (b c : ℕ) → is_symbol_byte b ≡ true → is_allowed c ≡ true → PrefixIsSingleSpaced c [] → (t : Bool) → ends_here (c ∷ []) ≡ t → is_single_spaced (b ∷ rest_of (c ∷ [])) ≡ true
last_two b c shown allowed from true e = rw (prefix_off c [] e) shown
last_two b c shown allowed from false e = rw (prefix_on c [] e) (by (is_space c) refl)
  where
    by : (u : Bool) → is_space c ≡ u → is_single_spaced (b ∷ c ∷ []) ≡ true
    by true k = absurd (omega (arith, space_byte c 32 k e))
    by false k = single_spaced_cons b c [] false k shown (from (other_byte c 32 allowed k e) e)

-- the symbols do not end at a byte above `$`, whatever follows
goes_next : (d : ℕ) (bytes : List ℕ) → 36 < d → ends_here (d ∷ bytes) ≡ false
goes_next d [] h = (above_dollar d 32 h).0
goes_next d (e ∷ bytes) h = (above_dollar d e h).0

-- the claim for three bytes or more, from the claim without the first byte and the claim without
-- the first two
two_more : (b c d : ℕ) (bytes : List ℕ) → is_symbol_byte b ≡ true → is_allowed c ≡ true → PrefixIsSingleSpaced c (d ∷ bytes) → PrefixIsSingleSpaced d bytes
    → (t : Bool) → ends_here (c ∷ d ∷ bytes) ≡ t → is_single_spaced (b ∷ rest_of (c ∷ d ∷ bytes)) ≡ true
two_more b c d bytes shown allowed from goes_on true e = rw (prefix_off c (d ∷ bytes) e) shown
two_more b c d bytes shown allowed from goes_on false e = rw (prefix_on c (d ∷ bytes) e) (by (is_space c) refl)
  where
    by : (u : Bool) → is_space c ≡ u → is_single_spaced (b ∷ c ∷ rest_of (d ∷ bytes)) ≡ true
    by true k =
        let high = space_byte c d k e in
        let on = goes_next d bytes high in
        single_spaced_cons b c (rest_of (d ∷ bytes)) true k shown
        (ap (λ n. is_single_spaced (take n (d ∷ bytes))) (prefix_on d bytes on) ∙ goes_on (above_dollar d 32 high).1 on)
    by false k = single_spaced_cons b c (rest_of (d ∷ bytes)) false k shown (from (other_byte c d allowed k e) e)

-- the claim holds for all allowed bytes
single_spaced_from : (b : ℕ) (bytes : List ℕ) → list_all is_allowed (b ∷ bytes) ≡ true → PrefixIsSingleSpaced b bytes
single_spaced_from b [] allowed white goes = shown_byte b 32 (and_parts (is_allowed b) _ allowed).0 white goes
single_spaced_from b (c ∷ []) allowed white goes =
    let next = (and_parts (is_allowed b) _ allowed).1 in
    last_two b c (shown_byte b c (and_parts (is_allowed b) _ allowed).0 white goes) (and_parts (is_allowed c) _ next).0 (single_spaced_from c [] next) (ends_here (c ∷ [])) refl
single_spaced_from b (c ∷ d ∷ bytes) allowed white goes =
    let next = (and_parts (is_allowed b) _ allowed).1 in
    two_more b c d bytes (shown_byte b c (and_parts (is_allowed b) _ allowed).0 white goes) (and_parts (is_allowed c) _ next).0
    (single_spaced_from c (d ∷ bytes) next) (single_spaced_from d bytes (and_parts (is_allowed c) _ next).1) (ends_here (c ∷ d ∷ bytes)) refl

-- a spaced prefix of a text of allowed bytes that does not start white is single-spaced
pub prefix_spaced : (bytes : List ℕ) → HasOnlyAllowedBytes bytes → is_empty_or_starts_white bytes ≡ false → 0 < spaced_prefix_len bytes → is_single_spaced (take (spaced_prefix_len bytes) bytes) ≡ true
prefix_spaced [] allowed white some = absurd (omega (arith, some))
prefix_spaced (b ∷ bytes) allowed white some = by (ends_here (b ∷ bytes)) refl
  where
    by : (t : Bool) → ends_here (b ∷ bytes) ≡ t → is_single_spaced (take (spaced_prefix_len (b ∷ bytes)) (b ∷ bytes)) ≡ true
    by true e = absurd (omega (arith, some, prefix_off b bytes e))
    by false e = rw (prefix_on b bytes e) (single_spaced_from b bytes allowed white e)

-- ---- the words of single-spaced bytes

-- a byte that passes the test for a space is a space
pub space_is : (c : ℕ) → is_space c ≡ true → c ≡ 32
space_is c e = grind (arith, e)

-- a byte of a symbol is no space
not_space : (b : ℕ) → is_symbol_byte b ≡ true → is_space b ≡ false
not_space b h = grind (arith, h)

-- a byte of a symbol is not white
pub not_white : (b : ℕ) → is_symbol_byte b ≡ true → is_white b ≡ false
not_white b h = grind (arith, h)

-- a byte of a symbol before a symbol makes a symbol
symbol_cons : (b : ℕ) (w : Name) → is_symbol_byte b ≡ true → is_symbol w ≡ true → is_symbol (b ∷ w) ≡ true
symbol_cons b w h k = by (is_visible b) (b == 36) (list_all is_visible w) (has_byte 36 w) (not (is_empty w)) h k
  where
    by : (v d vs ds some : Bool) → (v && not d) ≡ true → (some && vs && not ds) ≡ true → ((v && vs) && not (d || ds)) ≡ true
    by true false true false true h k = refl
    by false d vs ds some h k = cc
    by true true vs ds some h k = cc
    by true false vs ds false h k = cc
    by true false false ds true h k = cc
    by true false true true true h k = cc

-- a byte of a symbol is a symbol if it is alone
symbol_one : (b : ℕ) → is_symbol_byte b ≡ true → is_symbol (b ∷ []) ≡ true
symbol_one b h = by (is_visible b) (b == 36) h
  where
    by : (v d : Bool) → (v && not d) ≡ true → ((v && true) && not (d || false)) ≡ true
    by true false h = refl
    by true true h = cc
    by false d h = cc

abbrev pub split_of : List ℕ → List Name
split_of bytes = slice_split is_space bytes

-- a byte of a symbol in front belongs to the first word
pub split_byte : (b : ℕ) (bytes : List ℕ) → is_symbol_byte b ≡ true → split_of (b ∷ bytes) ≡ onto_first b (split_of bytes)
split_byte b bytes h = rw (not_space b h) refl

-- a space in front ends an empty word
pub split_gap : (c : ℕ) (bytes : List ℕ) → is_space c ≡ true → split_of (c ∷ bytes) ≡ [] ∷ split_of bytes
split_gap c bytes h = rw h refl

-- single-spaced bytes: the first byte, and those after it
module _ (b c : ℕ) (bytes : List ℕ) (single_spaced : is_single_spaced (b ∷ c ∷ bytes) ≡ true) where
  -- the first is a byte of a symbol
  pub first_byte : is_symbol_byte b ≡ true
  first_byte = (and_parts (is_symbol_byte b) _ single_spaced).0

  -- if the second byte is a space, the bytes after it are single-spaced
  pub after_gap : is_space c ≡ true → is_single_spaced bytes ≡ true
  after_gap e = ap (λ u. cond u (is_single_spaced bytes) (is_single_spaced (c ∷ bytes))) (sym e) ∙ (and_parts (is_symbol_byte b) _ single_spaced).1

  -- if the second byte is no space, the bytes from it on are single-spaced
  pub after_byte : is_space c ≡ false → is_single_spaced (c ∷ bytes) ≡ true
  after_byte e = ap (λ u. cond u (is_single_spaced bytes) (is_single_spaced (c ∷ bytes))) (sym e) ∙ (and_parts (is_symbol_byte b) _ single_spaced).1

-- a byte of a symbol in front of the first of some symbols leaves symbols
symbols_onto : (b : ℕ) (parts : List Name) (w : Name) (ws : List Name) → parts ≡ w ∷ ws → is_symbol_byte b ≡ true → list_all is_symbol parts ≡ true → list_all is_symbol (onto_first b parts) ≡ true
symbols_onto b parts w ws e h k =
    let these = sym (ap (list_all is_symbol) e) ∙ k in
    ap (λ r. list_all is_symbol (onto_first b r)) e ∙ and_from (is_symbol (b ∷ w)) _ (symbol_cons b w h (and_parts (is_symbol w) _ these).0) (and_parts (is_symbol w) _ these).1

abbrev AreSymbols : List ℕ → Type 0
AreSymbols bytes = list_all is_symbol (split_of bytes) ≡ true

-- .. also if the symbols are what bytes are split into, from the first byte on or after a space
symbols_step : (b c : ℕ) (bytes : List ℕ) → is_symbol_byte b ≡ true → (t : Bool) → is_space c ≡ t → (t ≡ true → AreSymbols bytes) → (t ≡ false → AreSymbols (c ∷ bytes))
    → list_all is_symbol (onto_first b (split_of (c ∷ bytes))) ≡ true
symbols_step b c bytes h true e gap on = ap (λ r. list_all is_symbol (onto_first b r)) (split_gap c bytes e) ∙ and_from _ _ (symbol_one b h) (gap refl)
symbols_step b c bytes h false e gap on =
    let p : (x : List ℕ) × (xs : List Name) × (split_of (c ∷ bytes) ≡ x ∷ xs) = first_part (c ∷ bytes) in
    symbols_onto b (split_of (c ∷ bytes)) p.0 p.1 p.2 h (on refl)

-- the words of single-spaced bytes are symbols
pub single_spaced_symbols : (bytes : List ℕ) → is_single_spaced bytes ≡ true → AreSymbols bytes
single_spaced_symbols [] h = cc
single_spaced_symbols (b ∷ []) h = ap (list_all is_symbol) (split_byte b [] h) ∙ and_from _ _ (symbol_one b h) refl
single_spaced_symbols (b ∷ c ∷ bytes) h =
    ap (list_all is_symbol) (split_byte b (c ∷ bytes) (first_byte b c bytes h))
    ∙ symbols_step b c bytes (first_byte b c bytes h) (is_space c) refl (λ e. single_spaced_symbols bytes (after_gap b c bytes h e)) (λ e. single_spaced_symbols (c ∷ bytes) (after_byte b c bytes h e))
