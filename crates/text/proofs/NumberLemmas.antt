-- The number of a word, read digit by digit.
use Rattle.std.specs.Prelude.{◌≡◌, ℕ, ◌+◌, ◌-◌, ◌*◌, ◌^◌, ◌<◌, ◌≤◌, Bool, true, false, List, [], ◌∷◌, Option, Some, None, if◌then◌else◌, refl}
use Rattle.std.specs.Char.{is_ascii_digit}
use Rattle.std.proofs.Common.{◌∙◌, ap, arith, drop, length, get_or, drop-cons, add-one}
use Rattle.std.proofs.lemmas.Bool.{lt-ltb, le-ltb}
use Rattle.std.proofs.lemmas.List.{drop_all}
use Rattle.text.specs.Numbers.{number_from}

-- a test with `None` in both branches
none_then : (b : Bool) (x : Option ℕ) → (b ≡ true → x ≡ None) → (if b then x else None) ≡ None
none_then true x h = h refl
none_then false x h = refl

-- a value at the limit or above is no number, whatever digits follow
too_large : (cs : List ℕ) (value : ℕ) → 2 ^ 64 ≤ value → number_from value cs ≡ None
too_large [] value large = rw (le-ltb value (2 ^ 64) large) refl
too_large (c ∷ cs) value large = none_then (is_ascii_digit c) (number_from (value * 10 + (c - 48)) cs) (λ digit. too_large cs (value * 10 + (c - 48)) (omega arith))

-- at the end of the word the value is the number
pub number_at_end : (word : List ℕ) (i value : ℕ) → length word ≤ i → value < 2 ^ 64 → number_from value (drop i word) ≡ Some value
number_at_end word i value end small = ap (number_from value) (drop_all i word end) ∙ rw (lt-ltb value (2 ^ 64) small) refl

-- a digit makes ten times the value, plus the digit
pub number_with_digit : (word : List ℕ) (i value c longer : ℕ) → i < length word → c ≡ get_or word i 0 → is_ascii_digit c ≡ true → longer ≡ value * 10 + (c - 48) → number_from value (drop i word) ≡ number_from longer (drop (i + 1) word)
number_with_digit word i value c longer inside is digit more =
    let front : drop i word ≡ c ∷ drop (i + 1) word = drop-cons word i 0 inside ∙ rw (add-one, is) refl in
    ap (number_from value) front ∙ rw (digit, more) refl

-- a byte that is no digit, or a value that gets too large, makes no number
pub number_without : (word : List ℕ) (i value c : ℕ) → i < length word → c ≡ get_or word i 0 → (is_ascii_digit c ≡ true → 2 ^ 64 ≤ value * 10 + (c - 48)) → number_from value (drop i word) ≡ None
number_without word i value c inside is none =
    let front : drop i word ≡ c ∷ drop (i + 1) word = drop-cons word i 0 inside ∙ rw (add-one, is) refl in
    ap (number_from value) front ∙ none_then (is_ascii_digit c) (number_from (value * 10 + (c - 48)) (drop (i + 1) word)) (λ digit. too_large (drop (i + 1) word) (value * 10 + (c - 48)) (none digit))
