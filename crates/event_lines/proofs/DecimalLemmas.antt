-- The decimal digits of a number: their value, and bytes that are none of them.
use Rattle.event_lines.proofs.Words.{◌≡◌, ℕ, ◌+◌, ◌*◌, ◌/◌, ◌%◌, ◌^◌, ◌<◌, ◌≤◌, ◌==◌, ◌-◌, ◌||◌, Bool, true, false, List, [], ◌∷◌, ◌++◌, decimal, Option, Some, None, if◌then◌else◌, refl, is_ascii_digit, list_any, sym, ◌∙◌, ap, arith, leb, length, append_assoc, append-nil, div-add-mod', le-leb, lt-ltb, ne_eqb, decimal_by_steps, decimal_nonempty, list_any-append, number_from, number_of}

-- the byte of a number below 10 is a digit
digit_is : (d : ℕ) → d < 10 → is_ascii_digit (48 + d) ≡ true
digit_is d small =
    let low : leb 48 (48 + d) ≡ true = le-leb 48 (48 + d) (omega arith) in
    let high : leb (48 + d) 57 ≡ true = le-leb (48 + d) 57 (omega arith) in
    rw (low, high) refl

-- a digit makes ten times the value, plus the digit
number_from-digit : (value d : ℕ) (rest : List ℕ) → d < 10 → number_from value ((48 + d) ∷ rest) ≡ number_from (value * 10 + d) rest
number_from-digit value d rest small =
    let next : value * 10 + ((48 + d) - 48) ≡ value * 10 + d = omega arith in
    ap (λ b. if b then number_from (value * 10 + ((48 + d) - 48)) rest else None) (digit_is d small)
    ∙ ap (λ v. number_from v rest) next

-- reading the digits of a number gives the number, whatever follows
number_from-decimal : (n : ℕ) → n < 2 ^ 64 → (rest : List ℕ) → number_from 0 (decimal n ++ rest) ≡ number_from n rest
number_from-decimal = decimal_by_steps (λ n ds. (rest : List ℕ) → number_from 0 (ds ++ rest) ≡ number_from n rest) one more
  where
    one : (n : ℕ) → n < 10 → (rest : List ℕ) → number_from 0 (((48 + n) ∷ []) ++ rest) ≡ number_from n rest
    one n small rest = number_from-digit 0 n rest small ∙ ap (λ v. number_from v rest) (let e : 0 * 10 + n ≡ n = omega arith in e)

    more : (n : ℕ) (ds : List ℕ) → 10 ≤ n → ((rest : List ℕ) → number_from 0 (ds ++ rest) ≡ number_from (n / 10) rest)
        → (rest : List ℕ) → number_from 0 ((ds ++ ((48 + n % 10) ∷ [])) ++ rest) ≡ number_from n rest
    more n ds big front rest =
        let last : n % 10 < 10 = omega arith in
        let whole : n / 10 * 10 + n % 10 ≡ n = omega (arith, div-add-mod' n 10) in
        ap (number_from 0) (append_assoc ds ((48 + n % 10) ∷ []) rest)
        ∙ (front ((48 + n % 10) ∷ rest)
        ∙ (number_from-digit (n / 10) (n % 10) rest last
        ∙ ap (λ v. number_from v rest) whole))

-- the number of a word that is not empty is read from its first byte
number_of-some : (word : List ℕ) → 0 < length word → number_of word ≡ number_from 0 word
number_of-some [] some = absurd (omega arith)
number_of-some (c ∷ cs) some = refl

pub number_of-decimal : (n : ℕ) → n < 2 ^ 64 → number_of (decimal n) ≡ Some n
number_of-decimal n small =
    number_of-some (decimal n) (decimal_nonempty n small)
    ∙ (ap (number_from 0) (sym (append-nil (decimal n)))
    ∙ (number_from-decimal n small []
    ∙ ap (λ b. if b then Some n else None) (lt-ltb n (2 ^ 64) small)))

-- a byte below the digits is not among the digits of a number
pub without-decimal : (c n : ℕ) → c < 48 → n < 2 ^ 64 → list_any (λ b. b == c) (decimal n) ≡ false
without-decimal c n low = decimal_by_steps (λ n ds. list_any (λ b. b == c) ds ≡ false) one more n
  where
    other : (d : ℕ) → ((48 + d) == c) ≡ false
    other d = ne_eqb (48 + d) c (λ same. omega arith)

    one : (n : ℕ) → n < 10 → list_any (λ b. b == c) ((48 + n) ∷ []) ≡ false
    one n small = ap (λ b. b || false) (other n)

    more : (n : ℕ) (ds : List ℕ) → 10 ≤ n → list_any (λ b. b == c) ds ≡ false → list_any (λ b. b == c) (ds ++ ((48 + n % 10) ∷ [])) ≡ false
    more n ds big front =
        list_any-append (λ b. b == c) ds ((48 + n % 10) ∷ [])
        ∙ (ap (λ b. b || ((48 + n % 10) == c || false)) front ∙ ap (λ b. b || false) (other (n % 10)))
