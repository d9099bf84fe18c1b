-- Tokens that write items have no `?`, and the numbers of a normal proof.
use Rattle.proof_code.proofs.Words.{◌≡◌, ℕ, ◌+◌, ◌-◌, ◌*◌, Bool, true, false, ◌==◌, List, [], ◌∷◌, ◌++◌, length, None, map, refl, list_all, list_any, range_with_len, sym, ◌∙◌, ap, arith, true≢false, inl, inr, length-map, get_or-map, list_any-append, fill_by_all, none-some, and_parts, or_cases, eqb-true, false_from_ne_true, Name, has_byte, is_label, is_label_byte, spaced, Item, Cite, Mark, item_of, items_of, with_number, numbers_from, right_parenthesis, question_mark, is_unfinished, WritesRow, WritesCompressed, map-map}
use Rattle.proof_code.proofs.RowOfNumbers.{joined, by_letter, item-cite}
use Rattle.proof_code.proofs.LetterItemLemmas.{RowIsRead, read-WritesRow}
use Rattle.proof_code.proofs.TextLemmas.{list_any-spaced, list_any-joined}

-- ---- tokens that write items have no `?`

-- no byte of a label is a `?`
no_question : (label : Name) → list_all is_label_byte label ≡ true → has_byte question_mark label ≡ false
no_question [] h = refl
no_question (b ∷ label) h =
    let parts : (is_label_byte b ≡ true) × (list_all is_label_byte label ≡ true) = and_parts (is_label_byte b) (list_all is_label_byte label) h in
    let other : (b == question_mark) ≡ false = false_from_ne_true (b == question_mark) (λ e. true≢false (rw (eqb-true b question_mark e) at (sym parts.0))) in
    rw (other, no_question label parts.1) refl

-- a label has no `?`
label_no_question : (label : Name) → is_label label ≡ true → has_byte question_mark label ≡ false
label_no_question [] h = refl
label_no_question (b ∷ label) h = no_question (b ∷ label) h

-- a proof of labels alone is not unfinished
pub labels_finished : (labels : List Name) → list_all is_label labels ≡ true → is_unfinished labels ≡ false
labels_finished [] h = refl
labels_finished (label ∷ labels) h =
    let parts : (is_label label ≡ true) × (list_all is_label labels ≡ true) = and_parts (is_label label) (list_all is_label labels) h in
    rw (label_no_question label parts.0, labels_finished labels parts.1) refl

-- letters with a `?` give no numbers
letters_finished : (limit digits : ℕ) (letters : List ℕ) → list_any (λ b. b == question_mark) letters ≡ true → numbers_from limit digits letters ≡ None
letters_finished limit digits [] h = cc
letters_finished limit digits (letter ∷ letters) h = elim (or_cases (letter == question_mark) (list_any (λ b. b == question_mark) letters) h) [
  | inl e ↦ rw (eqb-true letter question_mark e) refl
  | inr h ↦ by_letter (λ o. o ≡ None) limit digits letter letters (λ first. letters_finished limit (5 * digits + (letter - 84)) letters h)
      (λ first last. rw (letters_finished limit 0 letters h) (with_none limit (20 * digits + (letter - 64)))) (λ z none. rw (letters_finished (limit + 1) 0 letters h) refl) (λ first last. refl)
]
  where
    with_none : (limit number : ℕ) → with_number limit number None ≡ None
    with_none limit number = grind arith

-- if the letters of the tokens are a row of words and marks, no token has a `?`
row_finished : (labels : List Name) (rest : List Name) (items : List Item) → WritesRow labels (joined rest) items → is_unfinished rest ≡ false
row_finished labels rest items w =
    let read : RowIsRead labels (joined rest) items = read-WritesRow labels (joined rest) items w in
    false_from_ne_true (is_unfinished rest) (λ e. none-some read.numbers (sym (letters_finished (length labels) 0 (joined rest) (list_any-joined question_mark rest ∙ e)) ∙ read.read))

-- a compressed proof that writes items has no `?`
pub compressed_finished : (tokens mandatory : List Name) (items : List Item) → WritesCompressed tokens mandatory items → is_unfinished tokens ≡ false
compressed_finished tokens mandatory items w =
    ap is_unfinished w.whole ∙ (list_any-append (has_byte question_mark) w.listed (right_parenthesis ∷ w.rest)
    ∙ rw (labels_finished w.listed w.labels, row_finished (mandatory ++ w.listed) w.rest items w.letters) refl)

-- a token has a `?` exactly if the text of the tokens has one
pub is_unfinished_text : (tokens : List Name) (text : List ℕ) (r : Bool) → text ≡ spaced tokens → r ≡ list_any (λ b. b == question_mark) text → is_unfinished tokens ≡ r
is_unfinished_text tokens text r is h = sym (list_any-spaced question_mark tokens refl) ∙ (ap (list_any (λ b. b == question_mark)) (sym is) ∙ sym h)

-- ---- the numbers of a normal proof

-- the numbers 1, 2, .. up to the count of the labels cite all labels in order
pub items_of-all : (labels : List Name) → items_of labels (map (λ k. k + 1) (range_with_len 0 (length labels))) ≡ map (λ label. Cite label) labels
items_of-all labels =
    map-map (item_of labels) (λ k. k + 1) (range_with_len 0 (length labels))
    ∙ sym (fill_by_all (λ k. item_of labels (k + 1)) (map (λ label. Cite label) labels) (length labels) Mark (length-map labels (λ label. Cite label))
    (λ k h. get_or-map (λ label. Cite label) labels k [] Mark h ∙ sym (item-cite labels (k + 1) k (omega arith) h)))
