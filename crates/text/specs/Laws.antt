-- Laws about the names of files.
-- Source: this project's choice.
-- The code makes one name at a time.
use Rattle.std.specs.Prelude.{◌≡◌, ◌⊎◌, ℕ, ◌<◌, ◌^◌, Bool, false, true, ◌||◌, ◌==◌, List, [], ◌∷◌, codes}
use Rattle.std.specs.List.{list_all}
use Rattle.std.specs.Char.{is_ascii_lowercase, is_ascii_digit}
use Rattle.mm_lex.specs.Alphabet.{Name, has_byte}
use Rattle.text.specs.FileNames.{file_name}

-- a lowercase letter, a digit, `.`, `-`, `_` or `+`
abbrev pub is_name_byte : ℕ → Bool
is_name_byte b = is_ascii_lowercase b || (is_ascii_digit b || has_byte b (codes ".-_+"))

-- whether there are no bytes, or the first is a dot
abbrev pub is_empty_or_begins_with_dot : List ℕ → Bool
is_empty_or_begins_with_dot [] = true
is_empty_or_begins_with_dot (b ∷ bytes) = b == 46

-- two file names are equal only if the labels or the positions are equal
abbrev pub NamesDiffer : Type 0
NamesDiffer = (one other : Name) (p q : ℕ) → p < 2 ^ 64 → q < 2 ^ 64 → file_name one p ≡ file_name other q → (one ≡ other) ⊎ (p ≡ q)

-- each byte of a file name is a name byte; the name is not empty, and its first byte is not a dot
abbrev pub NamesStayInAFolder : Type 0
NamesStayInAFolder = (label : Name) (p : ℕ) → p < 2 ^ 64 → (list_all is_name_byte (file_name label p) ≡ true) × (is_empty_or_begins_with_dot (file_name label p) ≡ false)
