-- A list of words in one buffer, separated by single spaces.
-- Source: a word is a token (Metamath, 4.1.1); the single spaces are this project's choice.
-- The code stores the buffer; contracts see the list of its words.
use Rattle.std.specs.Prelude.{ℕ, Bool, false, ◌==◌, IsTrue, List, [], ◌∷◌}
use Rattle.std.specs.List.{list_all, slice_split, join_with_byte}
use Rattle.mm_lex.specs.Alphabet.{Name, is_visible}

-- the words, separated by single spaces
abbrev pub spaced : List Name → List ℕ
spaced ws = join_with_byte 32 ws

-- the words of a buffer
abbrev pub words_of : List ℕ → List Name
words_of [] = []
words_of (b ∷ text) = slice_split (λ c. c == 32) (b ∷ text)

-- whether the name can be a token: it has at least one byte, and each is visible
abbrev pub is_word : Name → Bool
is_word [] = false
is_word (b ∷ bytes) = list_all is_visible (b ∷ bytes)

abbrev pub AreWords : List Name → Type 0
AreWords ws = IsTrue (list_all is_word ws)
