-- The words that letters write in a compressed proof, and the number of each.
-- Source: Metamath, appendix B.
-- The code computes a word's number in base 5 and base 20; here it is the word's place in the order
-- of all words.
use Rattle.std.specs.Prelude.{◌≡◌, ℕ, zero, suc, ◌+◌, ◌-◌, ◌*◌, Bool, ◌&&◌, nat_le, if◌then◌else◌, List, [], ◌∷◌, ◌++◌, map, flat_map, length, Option, Some, None, slice_get, codes}
use Rattle.mm_lex.specs.Alphabet.{Name, is_empty}

-- the letters that end a word, and those before its last letter
abbrev pub last_letters : List ℕ
last_letters = codes "ABCDEFGHIJKLMNOPQRST"

abbrev pub leading_letters : List ℕ
leading_letters = codes "UVWXY"

-- the words with n letters before the last, in the order of the alphabet
abbrev pub words_with_leading : ℕ → List Name
words_with_leading zero = map (λ letter. letter ∷ []) last_letters
words_with_leading (suc n) = flat_map (λ letter. map (λ word. letter ∷ word) (words_with_leading n)) leading_letters

-- the words with fewer than n letters before the last, in order of length and then of the alphabet
abbrev pub words_with_fewer_leading : ℕ → List Name
words_with_fewer_leading zero = []
words_with_fewer_leading (suc n) = words_with_fewer_leading n ++ words_with_leading n

-- the word has this number, counted from 1 over all words in order of length and then of the
-- alphabet
abbrev pub IsNumber : Name → ℕ → Type 0
IsNumber word zero = ⊥
IsNumber word (suc n) = slice_get (words_with_fewer_leading (length word)) n ≡ Some word

-- whether the letter is A to T (`is_last`), and whether it is U to Y (`is_leading`)
abbrev pub is_last : ℕ → Bool
is_last letter = nat_le 65 letter && nat_le letter 84

abbrev pub is_leading : ℕ → Bool
is_leading letter = nat_le 85 letter && nat_le letter 89

-- the number of the letters by the formula, after letters of the value n: U to Y are the digits 1
-- to 5 in base 5, and A to T the last digits 1 to 20 in base 20
abbrev pub number_after : ℕ → Name → Option ℕ
number_after n [] = None
number_after n (letter ∷ word) =
    if is_leading letter then number_after (5 * n + (letter - 84)) word
    else (if is_last letter && is_empty word then Some (20 * n + (letter - 64)) else None)

-- the number of a word by the formula, or `None` if the letters are no word
abbrev pub number_of : Name → Option ℕ
number_of word = number_after 0 word
