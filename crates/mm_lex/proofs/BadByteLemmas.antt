-- The first byte that is not allowed.
use Rattle.mm_lex.proofs.Prelude.{◌≡◌, ℕ, ◌+◌, ◌<◌, nat_lt, suc, zero, Bool, true, false, not, List, [], ◌∷◌, length, take, Some, None, refl, list_all, position, position_or_len, cond, ltb-true, sym, ◌∙◌, ap, arith, get_or, passes_at_first, take-length, not-true, and_parts, not-not, is_allowed, HasOnlyAllowedBytes, IsFirstBadByte}
use Rattle.mm_lex.proofs.RunsLemmas.{all_before, found_at, found_none}

abbrev pub is_bad : ℕ → Bool
is_bad b = not (is_allowed b)

-- the bytes before the first bad one are allowed
allowed_before : (text : List ℕ) → list_all is_allowed (take (position_or_len is_bad text) text) ≡ true
allowed_before text = all_before is_bad is_allowed (λ b. sym (not-not (is_allowed b))) text

pub IsFirstBadByte-found : (text : List ℕ) (offset : ℕ) → Some offset ≡ position is_bad text → IsFirstBadByte text offset
IsFirstBadByte-found text offset found =
    let here = found_at is_bad text offset found in record {
      inside = here.1;
      bad = not-true (is_allowed (get_or text offset 0)) (rw here.0 (passes_at_first is_bad text 0 (omega (arith, here.0, here.1))));
      before = rw here.0 (allowed_before text);
    }

pub HasOnlyAllowedBytes-none : (text : List ℕ) → None ≡ position is_bad text → HasOnlyAllowedBytes text
HasOnlyAllowedBytes-none text none =
    let all = found_none is_bad text none in
    ap (list_all is_allowed) (sym (take-length text) ∙ ap (λ n. take n text) (sym all)) ∙ allowed_before text

-- an allowed byte in front moves the first bad byte by one place
first_step : (b : ℕ) (xs : List ℕ) (n : ℕ) → is_allowed b ≡ true → position_or_len is_bad xs ≡ n → position_or_len is_bad (b ∷ xs) ≡ suc n
first_step b xs n e k = rw e (let more : 1 + position_or_len is_bad xs ≡ suc n = omega (arith, k) in more)

-- a bad byte with only allowed bytes before it is the first bad one
first_is : (text : List ℕ) (offset : ℕ) → offset < length text → is_allowed (get_or text offset 0) ≡ false → list_all is_allowed (take offset text) ≡ true → position_or_len is_bad text ≡ offset
first_is [] offset inside bad before = absurd (omega (arith, inside))
first_is (b ∷ text) zero inside bad before = rw bad refl
first_is (b ∷ text) (suc offset) inside bad before =
    first_step b text offset (and_parts (is_allowed b) (list_all is_allowed (take offset text)) before).0 (first_is text offset (omega (arith, inside)) bad (and_parts (is_allowed b) (list_all is_allowed (take offset text)) before).1)

pub IsFirstBadByte-place : (text : List ℕ) (offset : ℕ) → IsFirstBadByte text offset → position_or_len is_bad text ≡ offset
IsFirstBadByte-place text offset is = first_is text offset is.inside is.bad is.before

-- in a text of allowed bytes the search for a bad byte reaches the end
clean_is : (text : List ℕ) → list_all is_allowed text ≡ true → position_or_len is_bad text ≡ length text
clean_is [] h = refl
clean_is (b ∷ text) h = first_step b text (length text) (and_parts (is_allowed b) (list_all is_allowed text) h).0 (clean_is text (and_parts (is_allowed b) (list_all is_allowed text) h).1)

-- a text has only allowed bytes or has a text fault, not both
pub HasOnlyAllowedBytes-no_fault : (text : List ℕ) (offset : ℕ) → HasOnlyAllowedBytes text → IsFirstBadByte text offset → ⊥
HasOnlyAllowedBytes-no_fault text offset allowed is = omega (arith, clean_is text allowed, IsFirstBadByte-place text offset is, is.inside)

pub IsFirstBadByte-unique : (text : List ℕ) (a b : ℕ) → IsFirstBadByte text a → IsFirstBadByte text b → a ≡ b
IsFirstBadByte-unique text a b is also = sym (IsFirstBadByte-place text a is) ∙ IsFirstBadByte-place text b also

pub position-clean : (text : List ℕ) → HasOnlyAllowedBytes text → None ≡ position is_bad text
position-clean text allowed = by (nat_lt (position_or_len is_bad text) (length text)) refl
  where
    by : (t : Bool) → nat_lt (position_or_len is_bad text) (length text) ≡ t → None ≡ cond t (Some (position_or_len is_bad text)) None
    by true e = absurd (omega (arith, ltb-true _ _ e, clean_is text allowed))
    by false e = refl
