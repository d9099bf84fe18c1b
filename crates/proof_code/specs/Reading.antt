-- How a compressed proof is read: the effect of one byte of the letters, and the items that the
-- whole proof writes.
-- Source: Metamath, appendix B.
-- The code reads without the mandatory labels: the caller tests whether a listed label is one of
-- them.
use Rattle.std.specs.Prelude.{◌≡◌, ℕ, ◌+◌, ◌-◌, ◌*◌, ◌^◌, ◌==◌, ◌||◌, Bool, IsTrue, IsFalse, if◌then◌else◌, List, [], ◌∷◌, ◌++◌, length, Option, Result, OnOk}
use Rattle.std.specs.List.{list_all, list_any}
use Rattle.std.specs.Option.{option_map}
use Rattle.mm_lex.specs.Alphabet.{Name, has_name, is_label}
use Rattle.proof_code.specs.declared.item.Item.{Item}
use Rattle.proof_code.specs.declared.reader.Heading.{Heading}
use Rattle.proof_code.specs.ItemNumbers.{items_of}
use Rattle.proof_code.specs.Letters.{is_leading, is_last}
use Rattle.proof_code.specs.Text.{letters_of, numbers_from}
use Rattle.proof_code.specs.Writes.{left_parenthesis, right_parenthesis, WritesCompressed}

-- these numbers before those of the rest
abbrev pub before_rest : List ℕ → Option (List ℕ) → Option (List ℕ)
before_rest numbers rest = option_map (λ more. numbers ++ more) rest

-- the value of the digits with a byte after them, where 32 is a space and 90 is Z, a mark; it is
-- over every limit for a mark after digits, and for a byte that is neither a letter nor a space
abbrev pub value_after : ℕ → ℕ → ℕ
value_after digits byte =
    if is_leading byte then 5 * digits + (byte - 84)
    else (if is_last byte then 20 * digits + (byte - 64)
    else (if byte == 32 then digits
    else (if byte == 90 then (if digits == 0 then 0 else 2 ^ 64 - digits) else 2 ^ 64 - 1)))

-- whether a byte ends a number: it is a letter A to T, or a mark
abbrev pub ends_number : ℕ → Bool
ends_number byte = is_last byte || (byte == 90)

-- by the value of the digits with the byte: the number that the byte ends, if it ends one
-- (`ended`), and the digits before the next byte (`digits_after`)
abbrev pub ended : ℕ → ℕ → List ℕ
ended byte value = if ends_number byte then value ∷ [] else []

abbrev pub digits_after : ℕ → ℕ → ℕ
digits_after byte value = if ends_number byte then 0 else value

-- the largest number that is valid after a byte
abbrev pub limit_after : ℕ → ℕ → ℕ
limit_after limit byte = if byte == 90 then limit + 1 else limit

-- one byte changes the limit and the digits in this way, and ends these numbers, whatever text
-- follows
abbrev pub IsByteEffect : ℕ → ℕ → ℕ → List ℕ → ℕ → ℕ → Type 0
IsByteEffect limit digits byte numbers limit' digits' =
    (text : List ℕ) → numbers_from limit digits (letters_of (byte ∷ text)) ≡ before_rest numbers (numbers_from limit' digits' (letters_of text))

-- one byte is read: whatever text follows, the numbers read before followed by those of the rest
-- are the same before and after that byte
abbrev pub IsNextRead : List ℕ → ℕ → ℕ → ℕ → List ℕ → ℕ → ℕ → Type 0
IsNextRead before limit digits byte after limit' digits' =
    (text : List ℕ) → before_rest before (numbers_from limit digits (letters_of (byte ∷ text))) ≡ before_rest after (numbers_from limit' digits' (letters_of text))

-- some listed label is a mandatory one
abbrev pub share_label : List Name → List Name → Bool
share_label mandatory listed = list_any (λ label. has_name label mandatory) listed

-- the proof is `(` and these words, of which it lists the first `count`; for any mandatory labels, `mandatory` of them, it
-- writes the items of these numbers if none of them is listed, and no items if one is
pub record IsHeadingWithNumbers (tokens : List Name) (mandatory : ℕ) (words : List Name) (count : ℕ) (numbers : List ℕ) : Type 0 where
  pub listed : List Name
  pub rest : List Name
  pub starts : tokens ≡ left_parenthesis ∷ words
  pub whole : words ≡ listed ++ right_parenthesis ∷ rest
  pub labels : IsTrue (list_all is_label listed)
  pub many : length listed ≡ count
  pub none_shared : (labels : List Name) → length labels ≡ mandatory → IsFalse (share_label labels listed) → WritesCompressed tokens labels (items_of (labels ++ listed) numbers)
  pub shared : (labels : List Name) → IsTrue (share_label labels listed) → (items : List Item) → ¬ WritesCompressed tokens labels items

-- the tokens are `(` and the words of the heading, which has the numbers of some items; these are
-- kept if the outcome is `Ok`
abbrev pub IsHeadingRead : {T E : Type 0} → List Name → ℕ → Heading → Result T E → List ℕ → Type 0
IsHeadingRead tokens mandatory heading outcome kept =
    (tokens ≡ left_parenthesis ∷ heading.words) × (numbers : List ℕ) × IsHeadingWithNumbers tokens mandatory heading.words heading.count numbers × OnOk outcome (numbers ≡ kept)
