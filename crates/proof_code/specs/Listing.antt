-- The count of the listed labels of a compressed proof, byte by byte, for the clauses of private
-- functions.
-- Source: Metamath, appendix B.
-- The code counts in this way; `ListingLemmas` proves that these are the labels of `list_and_rest`.
use Rattle.std.specs.Prelude.{ℕ, ◌+◌, Bool, true, false, ◌&&◌, ◌||◌, ◌==◌, if◌then◌else◌, List, [], ◌∷◌, Option, Some, None}
use Rattle.std.specs.List.{list_all}
use Rattle.std.specs.Option.{option_map}
use Rattle.mm_lex.specs.Alphabet.{is_label_byte}

-- 0 for a byte of a label, 1 for a space, 2 for any other
abbrev pub class_of : ℕ → ℕ
class_of b = if is_label_byte b then 0 else (if b == 32 then 1 else 2)

-- a byte of a label or a space
abbrev pub is_label_byte_or_space : ℕ → Bool
is_label_byte_or_space b = is_label_byte b || (b == 32)

abbrev pub are_label_bytes_or_spaces : List ℕ → Bool
are_label_bytes_or_spaces bytes = list_all is_label_byte_or_space bytes

-- the letters after the word `)` with which the text begins; `)` is byte 41, a space byte 32
abbrev pub letters_after_parenthesis : List ℕ → Option (List ℕ)
letters_after_parenthesis [] = None
letters_after_parenthesis (b ∷ []) = if b == 41 then Some [] else None
letters_after_parenthesis (b ∷ c ∷ letters) = if (b == 41) && (c == 32) then Some letters else None

-- n more labels than were found
abbrev pub more_labels : ℕ → Option (ℕ × List ℕ) → Option (ℕ × List ℕ)
more_labels n found = option_map (λ f. (n + f.0, f.1)) found

-- no labels and these letters, if a word begins here
abbrev pub with_no_labels : Bool → Option (List ℕ) → Option (ℕ × List ℕ)
with_no_labels word_begins letters = if word_begins then option_map (λ l. (0, l)) letters else None

-- the count of labels, and the letters after them; `word_begins` is whether a word begins here
abbrev pub listed_count : Bool → List ℕ → Option (ℕ × List ℕ)
listed_count word_begins [] = None
listed_count word_begins (b ∷ text) =
    if class_of b == 0 then listed_count false text
    else (if class_of b == 1 then more_labels 1 (listed_count true text) else with_no_labels word_begins (letters_after_parenthesis (b ∷ text)))
