-- The items that the tokens of a proof write, and the faults of tokens that write none.
-- Source: Metamath, 4.3 (normal proofs) and appendix B (compressed proofs).
-- The code reads bytes once, left to right; here the tokens are split into labels and words in any
-- way that fits.
use Rattle.std.specs.Prelude.{◌≡◌, ℕ, ◌+◌, ◌≤◌, ◌⊎◌, Bool, true, false, IsTrue, IsFalse, List, [], ◌∷◌, ◌++◌, map, length, flat_map, Some, slice_get, codes}
use Rattle.std.specs.List.{list_all, list_any}
use Rattle.mm_lex.specs.Alphabet.{Name, name_eq, has_name, has_byte, is_label}
use Rattle.proof_code.specs.declared.item.Item.{Item}
use Rattle.proof_code.specs.declared.item.Item.TheVariants.{Cite, Recall, Mark}
use Rattle.proof_code.specs.Letters.{IsNumber}

-- the byte `?`
abbrev pub question_mark : ℕ
question_mark = 63

-- some token has the byte `?`
abbrev pub is_unfinished : List Name → Bool
is_unfinished tokens = list_any (has_byte question_mark) tokens

-- the parentheses around the listed labels, and the letter that marks
abbrev pub left_parenthesis : Name
left_parenthesis = codes "("

abbrev pub right_parenthesis : Name
right_parenthesis = codes ")"

abbrev pub mark_letter : Name
mark_letter = codes "Z"

-- the first token is `(`
abbrev pub is_compressed : List Name → Bool
is_compressed [] = false
is_compressed (token ∷ tokens) = name_eq token left_parenthesis

-- a number cites a label, counted from 1, or, if greater than their count, recalls one of the
-- results marked so far
abbrev pub Denotes : List Name → ℕ → ℕ → Item → Type 0
Denotes labels marks number (Cite label) = (k : ℕ) × (number ≡ k + 1) × (slice_get labels k ≡ Some label)
Denotes labels marks number (Recall k) = (number ≡ length labels + k) × (1 ≤ k) × (k ≤ marks)
Denotes labels marks number Mark = ⊥

-- the row of words and marks gives the items, if `marks` marks precede it
abbrev pub AreItems : List Name → ℕ → List Name → List Item → Type 0
AreItems labels marks [] [] = Unit {0}
AreItems labels marks [] (item ∷ items) = ⊥
AreItems labels marks (word ∷ row) [] = ⊥
AreItems labels marks (word ∷ row) (Mark ∷ items) = (word ≡ mark_letter) × AreItems labels (marks + 1) row items
AreItems labels marks (word ∷ row) (item ∷ items) =
    (number : ℕ) × IsNumber word number × Denotes labels marks number item × AreItems labels marks row items

-- the items do not begin with a mark
abbrev pub starts_with_result : List Item → Bool
starts_with_result [] = true
starts_with_result (Mark ∷ items) = false
starts_with_result (item ∷ items) = true

-- the letters are a row of words and marks that gives the items
pub record WritesRow (labels : List Name) (letters : List ℕ) (items : List Item) : Type 0 where
  pub row : List Name
  pub whole : letters ≡ flat_map (λ word. word) row
  pub means : AreItems labels 0 row items
  pub starts : IsTrue (starts_with_result items)

-- the tokens are `(`, the listed labels, `)` and the letters, with spaces anywhere among them; the
-- mandatory labels are numbered before the listed ones, and no label is both
pub record WritesCompressed (tokens mandatory : List Name) (items : List Item) : Type 0 where
  pub listed : List Name
  pub rest : List Name
  pub whole : tokens ≡ left_parenthesis ∷ (listed ++ right_parenthesis ∷ rest)
  pub labels : IsTrue (list_all is_label listed)
  pub none_shared : IsFalse (list_any (λ label. has_name label mandatory) listed)
  pub letters : WritesRow (mandatory ++ listed) (flat_map (λ token. token) rest) items

-- each token is a label, and the items cite these labels
pub record WritesNormal (tokens : List Name) (items : List Item) : Type 0 where
  pub labels : IsTrue (list_all is_label tokens)
  pub cites : items ≡ map (λ token. Cite token) tokens

-- the tokens of a compressed proof, or of a normal one, write the items
abbrev pub WritesFinishedCompressed : List Name → List Name → List Item → Type 0
WritesFinishedCompressed tokens mandatory items = IsFalse (is_unfinished tokens) × WritesCompressed tokens mandatory items

abbrev pub WritesFinishedNormal : List Name → List Item → Type 0
WritesFinishedNormal tokens items = IsFalse (is_unfinished tokens) × WritesNormal tokens items

abbrev pub Writes : List Name → List Name → List Item → Type 0
Writes tokens mandatory items =
    (IsTrue (is_compressed tokens) × WritesFinishedCompressed tokens mandatory items)
    ⊎ (IsFalse (is_compressed tokens) × WritesFinishedNormal tokens items)

-- no token has the byte `?`, and no items are written
abbrev pub IsMalformed : List Name → (List Item → Type 0) → Type 0
IsMalformed tokens Written = IsFalse (is_unfinished tokens) × ((items : List Item) → ¬ Written items)
