-- The decimal digits of a number are a word.
use Rattle.printed.proofs.Words.{◌≡◌, ℕ, ◌+◌, ◌<◌, ◌^◌, ◌%◌, true, [], ◌∷◌, ◌++◌, decimal, refl, ◌∙◌, arith, leb, le-leb, decimal_by_steps, list_all-append, Name, is_visible, is_word}

-- a decimal digit is a visible byte
digit_visible : (d : ℕ) → d < 10 → is_visible (48 + d) ≡ true
digit_visible d small =
    let low : leb 33 (48 + d) ≡ true = le-leb 33 (48 + d) (omega arith) in
    let high : leb (48 + d) 126 ≡ true = le-leb (48 + d) 126 (omega arith) in
    rw (low, high) refl

-- a word with a visible byte appended is a word
word_more : (w : Name) (b : ℕ) → is_word w ≡ true → is_visible b ≡ true → is_word (w ++ b ∷ []) ≡ true
word_more [] b h k = cc
word_more (c ∷ w) b h k = list_all-append is_visible (c ∷ w) (b ∷ []) ∙ rw (h, k) refl

-- the decimal digits of a number are a word
pub is_word-decimal : (n : ℕ) → n < 2 ^ 64 → is_word (decimal n) ≡ true
is_word-decimal n fits = decimal_by_steps (λ m w. is_word w ≡ true)
    (λ m small. rw (digit_visible m small) refl)
    (λ m w large h. word_more w (48 + m % 10) h (digit_visible (m % 10) (omega arith)))
    n fits
