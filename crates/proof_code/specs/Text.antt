-- Tokens read from left to right, for the clauses of private functions.
-- Source: Metamath, appendix B.
-- The code reads in this way; `LetterItemLemmas` and `WritesLemmas` prove that this gives the items
-- of `Writes`.
use Rattle.std.specs.Prelude.{ℕ, ◌+◌, ◌-◌, ◌*◌, Bool, false, ◌&&◌, ◌==◌, nat_le, if◌then◌else◌, List, [], ◌∷◌, Option, Some, None}
use Rattle.std.specs.Option.{option_map}
use Rattle.mm_lex.specs.Alphabet.{Name, name_eq, is_label}
use Rattle.proof_code.specs.Letters.{is_leading, is_last}
use Rattle.proof_code.specs.Writes.{right_parenthesis}

-- the bytes of a text without its spaces
abbrev pub letters_of : List ℕ → List ℕ
letters_of [] = []
letters_of (byte ∷ text) = if byte == 32 then letters_of text else byte ∷ letters_of text

-- whether the first letter is Z (90), a mark
abbrev pub starts_with_mark : List ℕ → Bool
starts_with_mark [] = false
starts_with_mark (letter ∷ letters) = letter == 90

-- a number in front of the others, if it is not over the limit
abbrev pub with_number : ℕ → ℕ → Option (List ℕ) → Option (List ℕ)
with_number limit number rest = if nat_le number limit then option_map (λ numbers. number ∷ numbers) rest else None

-- the numbers that the letters write, 0 for a mark, where the letters U to Y already read of this
-- word have the value `digits`
abbrev pub numbers_from : ℕ → ℕ → List ℕ → Option (List ℕ)
numbers_from limit digits [] = if digits == 0 then Some [] else None
numbers_from limit digits (letter ∷ letters) =
    if is_leading letter then numbers_from limit (5 * digits + (letter - 84)) letters
    else (if is_last letter then with_number limit (20 * digits + (letter - 64)) (numbers_from limit 0 letters)
    else (if (letter == 90) && (digits == 0) then option_map (λ numbers. 0 ∷ numbers) (numbers_from (limit + 1) 0 letters) else None))

-- the labels before `)`, and the tokens after it
pub record ListAndRest : Type 0 where
  pub listed : List Name
  pub rest : List Name

abbrev pub with_label : Name → ListAndRest → ListAndRest
with_label label parts = record { listed = label ∷ parts.listed; rest = parts.rest }

-- these two parts of the tokens, or `None` unless labels alone precede a `)`
abbrev pub list_and_rest : List Name → Option ListAndRest
list_and_rest [] = None
list_and_rest (token ∷ tokens) =
    if name_eq token right_parenthesis then Some (record { listed = []; rest = tokens })
    else (if is_label token then option_map (with_label token) (list_and_rest tokens) else None)
