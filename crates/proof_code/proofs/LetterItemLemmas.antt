-- Letters that are read write the items of their numbers, and no other items.
use Rattle.proof_code.proofs.Words.{◌≡◌, ℕ, zero, suc, ◌+◌, ◌-◌, ◌*◌, ◌<◌, true, false, ◌==◌, nat_lt, nat_le, List, [], ◌∷◌, ◌++◌, length, Some, None, refl, sym, ◌∙◌, ap, arith, true≢false, none-some, nat_tests, cond_both, eqb-true, false_from_ne_true, Name, Item, Mark, number_of, items_of, numbers_from, starts_with_mark, AreItems, starts_with_result, WritesRow}
use Rattle.proof_code.proofs.LettersLemmas.{number_of-placed}
use Rattle.proof_code.proofs.RowOfNumbers.{joined, by_letter, begun-none, ReadRow, read_row, RowRead, row_read}

-- ---- the first letter

starts_with_mark-word : (word : Name) (number : ℕ) (rest : List ℕ) → number_of word ≡ Some number → starts_with_mark (word ++ rest) ≡ false
starts_with_mark-word [] number rest h = absurd (none-some number h)
starts_with_mark-word (letter ∷ word) number rest h = false_from_ne_true (letter == 90) (λ e. none-some number (rw (eqb-true letter 90 e) at h))

starts_with_mark-row : (labels : List Name) (marks : ℕ) (row : List Name) (items : List Item) → AreItems labels marks row items → starts_with_result items ≡ true → starts_with_mark (joined row) ≡ false
starts_with_mark-row labels marks [] [] m s = refl
starts_with_mark-row labels marks [] (item ∷ items) m s = absurd m
starts_with_mark-row labels marks (word ∷ row) [] m s = absurd m
starts_with_mark-row labels marks (word ∷ row) (Mark ∷ items) m s = cc
starts_with_mark-row labels marks (word ∷ row) (item ∷ items) m s = starts_with_mark-word word m.0 (joined row) (number_of-placed word m.0 m.1)

starts_with_result-read : (labels : List Name) (marks : ℕ) (row : List Name) (numbers : List ℕ) → AreItems labels marks row (items_of labels numbers) → starts_with_mark (joined row) ≡ false
    → starts_with_result (items_of labels numbers) ≡ true
starts_with_result-read labels marks row [] m s = refl
starts_with_result-read labels marks [] (zero ∷ numbers) m s = absurd m
starts_with_result-read labels marks (word ∷ row) (zero ∷ numbers) m s = absurd (true≢false (sym (ap (λ w. starts_with_mark (w ++ joined row)) m.0) ∙ s))
starts_with_result-read labels marks row (suc n ∷ numbers) m s = cond_both (nat_lt n (length labels)) _ _ (λ item. starts_with_result (item ∷ items_of labels numbers) ≡ true) (λ e. refl) (λ e. refl)

-- ---- letters that are read, and letters that write items

-- letters that are read, and do not begin with a mark, write the items of their numbers
pub WritesRow-read : (labels : List Name) (letters numbers : List ℕ) → starts_with_mark letters ≡ false → numbers_from (length labels) 0 letters ≡ Some numbers → WritesRow labels letters (items_of labels numbers)
WritesRow-read labels letters numbers s h =
    let read : ReadRow labels 0 [] letters numbers = read_row labels 0 (length labels) 0 [] letters numbers (omega arith) begun-none h in
    record {
      row = read.row;
      whole = read.whole;
      means = read.means;
      starts = starts_with_result-read labels 0 read.row numbers read.means (sym (ap starts_with_mark read.whole) ∙ s);
    }

-- the letters are read, and the items are those of their numbers
pub record RowIsRead (labels : List Name) (letters : List ℕ) (items : List Item) : Type 0 where
  pub starts : starts_with_mark letters ≡ false
  pub numbers : List ℕ
  pub read : numbers_from (length labels) 0 letters ≡ Some numbers
  pub are : items_of labels numbers ≡ items

pub read-WritesRow : (labels : List Name) (letters : List ℕ) (items : List Item) → WritesRow labels letters items → RowIsRead labels letters items
read-WritesRow labels letters items w =
    let read : RowRead labels (length labels) (joined w.row) items = row_read labels 0 (length labels) w.row items (omega arith) w.means in
    record {
      starts = ap starts_with_mark w.whole ∙ starts_with_mark-row labels 0 w.row items w.means w.starts;
      numbers = read.numbers;
      read = ap (numbers_from (length labels) 0) w.whole ∙ read.read;
      are = read.are;
    }

-- letters of a word that is already over the limit give no numbers, whatever follows
pub numbers_from-over : (limit digits : ℕ) (letters : List ℕ) → limit < 20 * digits → numbers_from limit digits letters ≡ None
numbers_from-over limit digits [] over =
    let test : (digits == 0) ≡ false = grind (arith, nat_tests) in
    rw test refl
numbers_from-over limit digits (letter ∷ letters) over =
    let test : nat_le (20 * digits + (letter - 64)) limit ≡ false = grind (arith, nat_tests) in
    by_letter (λ o. o ≡ None) limit digits letter letters (λ first. numbers_from-over limit (5 * digits + (letter - 84)) letters (omega arith)) (λ first last. rw test refl) (λ z none. absurd (omega arith)) (λ first last. refl)
