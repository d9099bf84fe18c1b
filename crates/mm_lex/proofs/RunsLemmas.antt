-- The runs of a text, found from left to right: white bytes are passed over, and a run ends at the
-- next white byte.
use Rattle.mm_lex.proofs.Prelude.{◌≡◌, ℕ, ◌+◌, ◌-◌, ◌<◌, ◌≤◌, suc, Bool, true, false, not, cond, nat_lt, List, [], ◌∷◌, length, take, drop, Some, None, refl, list_all, position, position_or_len, unwrap_or, sym, ◌∙◌, ap, arith, ltb-true, ltb-false, add-zero, length-drop, drop-drop, drop-length, prefix_len-le-length, Span, is_white, is_empty_or_starts_white, with_byte, runs_from, IsPartOfRun}

-- ---- the first place that passes a test

pub position_or_len-le : (p : ℕ → Bool) (xs : List ℕ) → position_or_len p xs ≤ length xs
position_or_len-le p xs = prefix_len-le-length (λ x. not (p x)) xs

-- the result of the search, or the length if nothing is found, is the first place that passes
pub unwrap_or-position : (p : ℕ → Bool) (xs : List ℕ) → unwrap_or (position p xs) (length xs) ≡ position_or_len p xs
unwrap_or-position p xs = by (nat_lt (position_or_len p xs) (length xs)) refl
  where
    by : (t : Bool) → nat_lt (position_or_len p xs) (length xs) ≡ t → unwrap_or (cond t (Some (position_or_len p xs)) None) (length xs) ≡ position_or_len p xs
    by true e = refl
    by false e = omega (arith, ltb-false _ _ e, position_or_len-le p xs)

-- if the search finds a place, it is the first that passes, and lies inside the list
pub found_at : (p : ℕ → Bool) (xs : List ℕ) (n : ℕ) → Some n ≡ position p xs → (n ≡ position_or_len p xs) × (n < length xs)
found_at p xs n = by (nat_lt (position_or_len p xs) (length xs)) refl
  where
    by : (t : Bool) → nat_lt (position_or_len p xs) (length xs) ≡ t → Some n ≡ cond t (Some (position_or_len p xs)) None → (n ≡ position_or_len p xs) × (n < length xs)
    by true e h = let same : n ≡ position_or_len p xs = cc in (same, omega (arith, same, ltb-true _ _ e))
    by false e h = cc

-- if the search finds nothing, no place before the end of the list passes
pub found_none : (p : ℕ → Bool) (xs : List ℕ) → None ≡ position p xs → position_or_len p xs ≡ length xs
found_none p xs = by (nat_lt (position_or_len p xs) (length xs)) refl
  where
    by : (t : Bool) → nat_lt (position_or_len p xs) (length xs) ≡ t → None ≡ cond t (Some (position_or_len p xs)) None → position_or_len p xs ≡ length xs
    by true e h = cc
    by false e h = omega (arith, ltb-false _ _ e, position_or_len-le p xs)

-- one plus a number is its successor
one_more : (n : ℕ) → 1 + n ≡ suc n
one_more n = omega arith

-- if each element before a place fails the test, so does each with one more in front
before_step : (p q : ℕ → Bool) (b : ℕ) (xs : List ℕ) (n : ℕ) (t : Bool) → q b ≡ not t → list_all q (take n xs) ≡ true
    → list_all q (take (cond (not t) (1 + n) 0) (b ∷ xs)) ≡ true
before_step p q b xs n true e k = refl
before_step p q b xs n false e k = rw (one_more n) (rw e k)

-- each element before the first that passes fails the test
pub all_before : (p q : ℕ → Bool) → ((b : ℕ) → q b ≡ not (p b)) → (xs : List ℕ) → list_all q (take (position_or_len p xs) xs) ≡ true
all_before p q same [] = refl
all_before p q same (b ∷ xs) = before_step p q b xs (position_or_len p xs) (p b) (same b) (all_before p q same xs)

-- ---- white bytes

abbrev pub is_shown : ℕ → Bool
is_shown b = not (is_white b)

-- if the runs are the same without the white bytes at the front, so are they with one more byte in
-- front
white_step : (at b : ℕ) (bytes : List ℕ) (n : ℕ) (t : Bool) → is_white b ≡ t → runs_from (at + 1) bytes ≡ runs_from (at + 1 + n) (drop n bytes)
    → runs_from at (b ∷ bytes) ≡ runs_from (at + cond (not (not t)) (1 + n) 0) (drop (cond (not (not t)) (1 + n) 0) (b ∷ bytes))
white_step at b bytes n true e k =
    let same : at + 1 + n ≡ at + (1 + n) = omega arith in
    let split : drop (1 + n) (b ∷ bytes) ≡ drop n bytes = rw (one_more n) refl in
    rw (e, split) (k ∙ ap (λ m. runs_from m (drop n bytes)) same)
white_step at b bytes n false e k = ap (λ m. runs_from m (b ∷ bytes)) (sym (add-zero at))

-- the runs are the same without the white bytes at the front
pub runs_from-white : (at : ℕ) (bytes : List ℕ) → runs_from at bytes ≡ runs_from (at + position_or_len is_shown bytes) (drop (position_or_len is_shown bytes) bytes)
runs_from-white at [] = refl
runs_from-white at (b ∷ bytes) =
    white_step at b bytes (position_or_len is_shown bytes) (is_white b) refl (runs_from-white (at + 1) bytes)

-- the list begins with a byte that is not white
pub record BeginsShown (bytes : List ℕ) : Type 0 where
  pub first : ℕ
  pub rest : List ℕ
  pub whole : bytes ≡ first ∷ rest
  pub shown : is_white first ≡ false

-- if the list without its white bytes begins with one that is not white, so does the list with one
-- more byte in front
shown_step : (b : ℕ) (bytes : List ℕ) (n : ℕ) (t : Bool) → is_white b ≡ t → (n < length bytes → BeginsShown (drop n bytes))
    → cond (not (not t)) (1 + n) 0 < length (b ∷ bytes) → BeginsShown (drop (cond (not (not t)) (1 + n) 0) (b ∷ bytes))
shown_step b bytes n true e k inside =
    let split : drop (1 + n) (b ∷ bytes) ≡ drop n bytes = rw (one_more n) refl in
    rw split (k (omega (arith, inside)))
shown_step b bytes n false e k inside = record { first = b; rest = bytes; whole = refl; shown = e }

-- if a list has more than white bytes, it begins without them with a byte that is not white
pub begins_shown : (bytes : List ℕ) → position_or_len is_shown bytes < length bytes → BeginsShown (drop (position_or_len is_shown bytes) bytes)
begins_shown [] inside = absurd (omega (arith, inside))
begins_shown (b ∷ bytes) inside =
    shown_step b bytes (position_or_len is_shown bytes) (is_white b) refl (begins_shown bytes) inside

-- ---- a run

abbrev span_of : ℕ → ℕ → Span
span_of start end = record { start = start; end = end }

-- one more byte in front of a run begins it, and in front of a white byte is a run of its own
run_step : (at b c : ℕ) (bytes : List ℕ) (n : ℕ) (t : Bool) → is_white c ≡ t
    → (t ≡ false → runs_from (at + 1) (c ∷ bytes) ≡ span_of (at + 1) (at + 1 + (1 + n)) ∷ runs_from (at + 1 + (1 + n)) (drop (1 + n) (c ∷ bytes)))
    → with_byte at t (runs_from (at + 1) (c ∷ bytes))
    ≡ span_of at (at + (1 + cond (not t) (1 + n) 0)) ∷ runs_from (at + (1 + cond (not t) (1 + n) 0)) (drop (1 + cond (not t) (1 + n) 0) (b ∷ c ∷ bytes))
run_step at b c bytes n true e k = refl
run_step at b c bytes n false e k =
    let same : at + 1 + (1 + n) ≡ at + (1 + (1 + n)) = omega arith in
    let split : drop (1 + (1 + n)) (b ∷ c ∷ bytes) ≡ drop (1 + n) (c ∷ bytes) = rw (one_more (1 + n)) refl in
    ap (with_byte at false) (k refl) ∙ rw split (ap (λ m. span_of at m ∷ runs_from m (drop (1 + n) (c ∷ bytes))) same)

-- a run ends at the next white byte
pub runs_from-run : (at b : ℕ) (bytes : List ℕ) → is_white b ≡ false
    → runs_from at (b ∷ bytes) ≡ span_of at (at + (1 + position_or_len is_white bytes)) ∷ runs_from (at + (1 + position_or_len is_white bytes)) (drop (1 + position_or_len is_white bytes) (b ∷ bytes))
runs_from-run at b [] e = rw e refl
runs_from-run at b (c ∷ bytes) e =
    rw e (run_step at b c bytes (position_or_len is_white bytes) (is_white c) refl (runs_from-run (at + 1) c bytes))

-- ---- the next run of a text

module _ (text : List ℕ) (at white visible : ℕ) (within : at ≤ length text)
    (blanks : white ≡ position_or_len is_shown (drop at text))
    (shown : visible ≡ position_or_len is_white (drop white (drop at text))) where
  -- the bytes that are left are those of the text from the place on
  rest_len : length (drop at text) + at ≡ length text
  rest_len = omega (arith, length-drop at text)

  -- if only white bytes are left, no run is left
  pub no_run : white ≡ length (drop at text) → runs_from at (drop at text) ≡ []
  no_run all =
      let here = runs_from-white at (drop at text) in
      let gone : drop white (drop at text) ≡ [] = rw all (drop-length (drop at text)) in
      here ∙ (ap (λ n. runs_from (at + n) (drop n (drop at text))) (sym blanks) ∙ ap (runs_from (at + white)) gone)

  module _ (inside : white < length (drop at text)) where
    -- the byte after the white bytes is not white
    begins : BeginsShown (drop white (drop at text))
    begins = let k : position_or_len is_shown (drop at text) < length (drop at text) = omega (arith, blanks) in rw blanks (begins_shown (drop at text) k)

    -- the run is this byte and the bytes up to the next white one
    visible_is : visible ≡ 1 + position_or_len is_white begins.rest
    visible_is =
        let e : position_or_len is_white (begins.first ∷ begins.rest) ≡ 1 + position_or_len is_white begins.rest = rw begins.shown refl in
        shown ∙ (ap (position_or_len is_white) begins.whole ∙ e)

    pub next_run-whole : runs_from at (drop at text) ≡ span_of (at + white) (at + white + visible) ∷ runs_from (at + white + visible) (drop (at + white + visible) text)
    next_run-whole =
        let run = runs_from-run (at + white) begins.first begins.rest begins.shown in
        let back : drop visible (begins.first ∷ begins.rest) ≡ drop (at + white + visible) text =
        ap (drop visible) (sym begins.whole) ∙ (drop-drop visible white (drop at text) ∙ (drop-drop (white + visible) at text ∙ (let same : at + (white + visible) ≡ at + white + visible = omega arith in ap (λ n. drop n text) same))) in
        runs_from-white at (drop at text)
        ∙ (ap (λ n. runs_from (at + n) (drop n (drop at text))) (sym blanks)
        ∙ (ap (runs_from (at + white)) begins.whole
        ∙ (run
        ∙ (ap (λ n. span_of (at + white) (at + white + n) ∷ runs_from (at + white + n) (drop n (begins.first ∷ begins.rest))) (sym visible_is)
        ∙ ap (λ r. span_of (at + white) (at + white + visible) ∷ runs_from (at + white + visible) r) back))))

    pub next_run-place : IsPartOfRun text (span_of (at + white) (at + white + visible))
    next_run-place =
        let few = position_or_len-le is_white (drop white (drop at text)) in
        let width : at + white + visible - (at + white) ≡ visible = omega arith in
        let from : drop (at + white) text ≡ drop white (drop at text) = sym (drop-drop white at text) in record {
          some = omega (arith, visible_is);
          within = omega (arith, few, length-drop white (drop at text), rest_len, shown);
          visible = rw (width, from, shown) (all_before is_white is_shown (λ b. refl) (drop white (drop at text)));
        }

-- ---- to the next byte that is not white

module _ (text : List ℕ) (at white : ℕ) (within : at ≤ length text) (blanks : white ≡ position_or_len is_shown (drop at text)) where
  -- the runs are the same from after the white bytes on
  pub skip_white : runs_from at (drop at text) ≡ runs_from (at + white) (drop (at + white) text)
  skip_white =
      runs_from-white at (drop at text)
      ∙ (ap (λ n. runs_from (at + n) (drop n (drop at text))) (sym blanks) ∙ ap (runs_from (at + white)) (drop-drop white at text))

  -- the text after the white bytes does not start white, if any is left
  pub shown_after : at + white < length text → is_empty_or_starts_white (drop (at + white) text) ≡ false
  shown_after inside =
      let k : position_or_len is_shown (drop at text) < length (drop at text) = omega (arith, blanks, inside, length-drop at text) in
      let begins = begins_shown (drop at text) k in
      ap is_empty_or_starts_white (sym (drop-drop white at text) ∙ (ap (λ n. drop n (drop at text)) blanks ∙ begins.whole)) ∙ begins.shown
