-- The text of some words: its letters, its length, and a byte in it.
use Rattle.proof_code.proofs.Words.{◌≡◌, ℕ, ◌+◌, ◌*◌, ◌≤◌, true, false, ◌||◌, ◌==◌, List, [], ◌∷◌, ◌++◌, flat_map, length, refl, list_all, list_any, sym, ◌∙◌, ap, arith, true≢false, length-append, append-nil, list_any-append, and_parts, eqb-true, false_from_ne_true, or-false, Name, is_visible, has_byte, spaced, is_word, letters_of, word-visible}

-- a visible byte is not a space
pub not_space : (b : ℕ) → is_visible b ≡ true → (b == 32) ≡ false
not_space b h = false_from_ne_true (b == 32) (λ e. true≢false (sym h ∙ ap is_visible (eqb-true b 32 e)))

letters_of-visible : (word : Name) (text : List ℕ) → list_all is_visible word ≡ true → letters_of (word ++ text) ≡ word ++ letters_of text
letters_of-visible [] text h = refl
letters_of-visible (b ∷ word) text h =
    let parts : (is_visible b ≡ true) × (list_all is_visible word ≡ true) = and_parts (is_visible b) (list_all is_visible word) h in
    rw (not_space b parts.0) (ap (λ r. b ∷ r) (letters_of-visible word text parts.1))

-- the text of words without its spaces is the words joined
pub letters_of-spaced : (words : List Name) → list_all is_word words ≡ true → letters_of (spaced words) ≡ flat_map (λ word. word) words
letters_of-spaced [] h = refl
letters_of-spaced (word ∷ []) h =
    ap letters_of (sym (append-nil word)) ∙ letters_of-visible word [] (word-visible word (and_parts (is_word word) true h).0)
letters_of-spaced (word ∷ next ∷ words) h =
    let parts : (is_word word ≡ true) × (list_all is_word (next ∷ words) ≡ true) = and_parts (is_word word) (list_all is_word (next ∷ words)) h in
    letters_of-visible word (32 ∷ spaced (next ∷ words)) (word-visible word parts.0) ∙ ap (λ r. word ++ r) (letters_of-spaced (next ∷ words) parts.1)

-- a word is not empty
some_byte : (word : Name) → is_word word ≡ true → 1 ≤ length word
some_byte [] h = cc
some_byte (b ∷ word) h = omega arith

-- a text has at least twice as many bytes as words, less one
pub length-spaced : (words : List Name) → list_all is_word words ≡ true → 2 * length words ≤ length (spaced words) + 1
length-spaced [] h = omega arith
length-spaced (word ∷ []) h = omega (arith, some_byte word (and_parts (is_word word) true h).0)
length-spaced (word ∷ next ∷ words) h =
    let parts : (is_word word ≡ true) × (list_all is_word (next ∷ words) ≡ true) = and_parts (is_word word) (list_all is_word (next ∷ words)) h in
    omega (arith, some_byte word parts.0, length-spaced (next ∷ words) parts.1, length-append word (32 ∷ spaced (next ∷ words)))

-- a byte other than a space is in the text exactly if it is in a word
pub list_any-spaced : (byte : ℕ) (words : List Name) → (32 == byte) ≡ false → list_any (λ b. b == byte) (spaced words) ≡ list_any (has_byte byte) words
list_any-spaced byte [] h = refl
list_any-spaced byte (word ∷ []) h = sym (or-false (list_any (λ b. b == byte) word))
list_any-spaced byte (word ∷ next ∷ words) h =
    list_any-append (λ b. b == byte) word (32 ∷ spaced (next ∷ words))
    ∙ (ap (λ t. has_byte byte word || (t || list_any (λ b. b == byte) (spaced (next ∷ words)))) h
    ∙ ap (λ r. has_byte byte word || r) (list_any-spaced byte (next ∷ words) h))

-- .. and it is in the joined words exactly if it is in a word
pub list_any-joined : (byte : ℕ) (words : List Name) → list_any (λ b. b == byte) (flat_map (λ word. word) words) ≡ list_any (has_byte byte) words
list_any-joined byte [] = refl
list_any-joined byte (word ∷ words) =
    list_any-append (λ b. b == byte) word (flat_map (λ word. word) words) ∙ ap (λ r. has_byte byte word || r) (list_any-joined byte words)
