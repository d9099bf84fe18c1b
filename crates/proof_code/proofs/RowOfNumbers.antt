-- Letters that are read give the numbers of one row of words and marks, and the letters of each row
-- are read.
use Rattle.proof_code.proofs.Words.{◌≡◌, ℕ, zero, suc, ◌+◌, ◌-◌, ◌*◌, ◌<◌, ◌≤◌, false, true, cond, ◌&&◌, ◌==◌, nat_lt, nat_le, List, [], ◌∷◌, ◌++◌, flat_map, length, Option, Some, None, refl, get_or, option_map, sym, ◌∙◌, ap, arith, append_assoc, none-some, same_Some, slice_get-get_or, slice_get_within, get_or_from_slice_get, nat_tests, cond_both, and_parts, eqb-true, leb-true, ltb-true, ltb-false, lt-ltb, le-ltb, append-nil, Name, is_empty, Item, Cite, Recall, Mark, IsNumber, is_leading, is_last, number_after, number_of, item_of, items_of, with_number, numbers_from, mark_letter, AreItems}
use Rattle.proof_code.proofs.LettersLemmas.{number_of-placed, placed-number_of, first_bounds, last_bounds}

abbrev pub joined : List Name → List ℕ
joined row = flat_map (λ word. word) row

-- ---- one letter

-- a property of the numbers, if it holds for each kind of first letter
pub by_letter : (P : Option (List ℕ) → Type 0) (limit digits letter : ℕ) (letters : List ℕ)
    → (is_leading letter ≡ true → P (numbers_from limit (5 * digits + (letter - 84)) letters))
    → (is_leading letter ≡ false → is_last letter ≡ true → P (with_number limit (20 * digits + (letter - 64)) (numbers_from limit 0 letters)))
    → (letter ≡ 90 → digits ≡ 0 → P (option_map (λ numbers. 0 ∷ numbers) (numbers_from (limit + 1) 0 letters)))
    → (is_leading letter ≡ false → is_last letter ≡ false → P None) → P (numbers_from limit digits (letter ∷ letters))
by_letter P limit digits letter letters first last marks none =
    cond_both (is_leading letter) _ _ P first (λ f. cond_both (is_last letter) _ _ P (last f) (λ l. cond_both ((letter == 90) && (digits == 0)) _ _ P
    (λ m. let parts : ((letter == 90) ≡ true) × ((digits == 0) ≡ true) = and_parts (letter == 90) (digits == 0) m in marks (eqb-true letter 90 parts.0) (eqb-true digits 0 parts.1))
    (λ m. none f l)))

-- ---- the meaning of a number

-- a number up to the count of the labels cites the label at that place
pub item-cite : (labels : List Name) (n k : ℕ) → n ≡ suc k → k < length labels → item_of labels n ≡ Cite (get_or labels k [])
item-cite labels n k e h = ap (item_of labels) e ∙ ap (λ b. cond b (Cite (get_or labels k [])) (Recall (suc (k - length labels)))) (lt-ltb k (length labels) h)

-- a number above the count of the labels recalls a mark
pub item-recall : (labels : List Name) (n k : ℕ) → n ≡ suc k → length labels ≤ k → item_of labels n ≡ Recall (suc (k - length labels))
item-recall labels n k e h = ap (item_of labels) e ∙ ap (λ b. cond b (Cite (get_or labels k [])) (Recall (suc (k - length labels)))) (le-ltb k (length labels) h)

-- a word whose number is at most the count of labels and marks means the item of that number
means : (labels : List Name) (marks number : ℕ) (word : Name) (row : List Name) (items : List Item)
    → 1 ≤ number → number ≤ length labels + marks → IsNumber word number → AreItems labels marks row items → AreItems labels marks (word ∷ row) (item_of labels number ∷ items)
means labels marks zero word row items some within is rest = absurd (omega arith)
means labels marks (suc n) word row items some within is rest =
    cond_both (nat_lt n (length labels)) _ _ (λ item. AreItems labels marks (word ∷ row) (item ∷ items))
    (λ e. (suc n, is, (n, omega arith, slice_get-get_or labels n [] (ltb-true n (length labels) e)), rest))
    (λ e. let outside : length labels ≤ n = ltb-false n (length labels) e in (suc n, is, (omega arith, omega arith, omega arith), rest))

-- ---- sound: the numbers read are those of a row

-- the letters `before` at the start of a word have the value `digits`
pub record Begun (before : Name) (digits : ℕ) : Type 0 where
  pub counts : (word : Name) → number_of (before ++ word) ≡ number_after digits word
  pub none : digits ≡ 0 → before ≡ []

pub begun-none : Begun [] 0
begun-none = record { counts = λ word. refl; none = λ e. refl }

begun-more : (before : Name) (digits letter : ℕ) → Begun before digits → is_leading letter ≡ true → Begun (before ++ letter ∷ []) (5 * digits + (letter - 84))
begun-more before digits letter begun first =
    let bounds : (85 ≤ letter) × (letter ≤ 89) = first_bounds letter first in
    record {
      counts = λ word. ap number_of (append_assoc before (letter ∷ []) word) ∙ (begun.counts (letter ∷ word) ∙ rw first refl);
      none = λ e. absurd (omega (arith, e, bounds.0));
    }

pub record ReadRow (labels : List Name) (marks : ℕ) (before : Name) (letters : List ℕ) (numbers : List ℕ) : Type 0 where
  pub row : List Name
  pub whole : before ++ letters ≡ joined row
  pub means : AreItems labels marks row (items_of labels numbers)

option_map-some : {A B : Type 0} (f : A → B) (o : Option A) (y : B) → option_map f o ≡ Some y → (x : A) × (o ≡ Some x) × (f x ≡ y)
option_map-some f None y h = absurd (none-some y h)
option_map-some f (Some x) y h = (x, refl, same_Some (f x) y h)

with_number-some : (limit number : ℕ) (rest : Option (List ℕ)) (numbers : List ℕ) → with_number limit number rest ≡ Some numbers
    → (number ≤ limit) × ((more : List ℕ) × (rest ≡ Some more) × (number ∷ more ≡ numbers))
with_number-some limit number rest numbers =
    cond_both (nat_le number limit) _ _ (λ o. o ≡ Some numbers → (number ≤ limit) × ((more : List ℕ) × (rest ≡ Some more) × (number ∷ more ≡ numbers)))
    (λ e h. (leb-true number limit e, option_map-some (λ numbers. number ∷ numbers) rest numbers h)) (λ e h. absurd (none-some numbers h))

-- the last letter of a word
read_last : (labels : List Name) (marks limit digits : ℕ) (before : Name) (letter : ℕ) (letters numbers : List ℕ) → limit ≡ length labels + marks → Begun before digits
    → is_leading letter ≡ false → is_last letter ≡ true → ((more : List ℕ) → numbers_from limit 0 letters ≡ Some more → ReadRow labels marks [] letters more)
    → with_number limit (20 * digits + (letter - 64)) (numbers_from limit 0 letters) ≡ Some numbers → ReadRow labels marks before (letter ∷ letters) numbers
read_last labels marks limit digits before letter letters numbers is begun first last ih h =
    let number : ℕ = 20 * digits + (letter - 64) in
    let bounds : (65 ≤ letter) × (letter ≤ 84) = last_bounds letter last in
    let got : (number ≤ limit) × ((more : List ℕ) × (numbers_from limit 0 letters ≡ Some more) × (number ∷ more ≡ numbers)) = with_number-some limit number (numbers_from limit 0 letters) numbers h in
    let read : ReadRow labels marks [] letters got.1.0 = ih got.1.0 got.1.1 in
    let word : Name = before ++ letter ∷ [] in
    let ends : number_after digits (letter ∷ []) ≡ Some number = rw (first, last) refl in
    rw (← got.1.2) (record {
      row = word ∷ read.row;
      whole = sym (append_assoc before (letter ∷ []) letters) ∙ ap (λ r. word ++ r) read.whole;
      means = means labels marks number word read.row (items_of labels got.1.0) (omega (arith, bounds.0)) (omega (arith, is, got.0)) (placed-number_of word number (begun.counts (letter ∷ []) ∙ ends)) read.means;
    })

-- letters that give numbers are a row, and its items are those of the numbers
pub read_row : (labels : List Name) (marks limit digits : ℕ) (before : Name) (letters numbers : List ℕ) → limit ≡ length labels + marks → Begun before digits
    → numbers_from limit digits letters ≡ Some numbers → ReadRow labels marks before letters numbers
read_row labels marks limit digits before [] numbers is begun =
    cond_both (digits == 0) _ _ (λ o. o ≡ Some numbers → ReadRow labels marks before [] numbers)
    (λ e h. rw (← same_Some [] numbers h) (record { row = []; whole = append-nil before ∙ begun.none (eqb-true digits 0 e); means = tt })) (λ e h. absurd (none-some numbers h))
read_row labels marks limit digits before (letter ∷ letters) numbers is begun =
    by_letter (λ o. o ≡ Some numbers → ReadRow labels marks before (letter ∷ letters) numbers) limit digits letter letters
    (λ first h.
    let read : ReadRow labels marks (before ++ letter ∷ []) letters numbers = read_row labels marks limit (5 * digits + (letter - 84)) (before ++ letter ∷ []) letters numbers is (begun-more before digits letter begun first) h in
    record { row = read.row; whole = sym (append_assoc before (letter ∷ []) letters) ∙ read.whole; means = read.means })
    (λ first last h. read_last labels marks limit digits before letter letters numbers is begun first last (λ more. read_row labels marks limit 0 [] letters more is begun-none) h)
    (λ z none h.
    let got : (more : List ℕ) × (numbers_from (limit + 1) 0 letters ≡ Some more) × (0 ∷ more ≡ numbers) = option_map-some (λ numbers. 0 ∷ numbers) (numbers_from (limit + 1) 0 letters) numbers h in
    let read : ReadRow labels (marks + 1) [] letters got.0 = read_row labels (marks + 1) (limit + 1) 0 [] letters got.0 (omega (arith, is)) begun-none got.1 in
    rw (← got.2, begun.none none, z) (record { row = mark_letter ∷ read.row; whole = ap (λ r. mark_letter ++ r) read.whole; means = (refl, read.means) }))
    (λ first last h. absurd (none-some numbers h))

-- ---- complete: the numbers of a row are read

-- the numbers of the letters of a word and of those after it
numbers_from-word : (limit d number : ℕ) (word : Name) (rest : List ℕ) → number_after d word ≡ Some number → numbers_from limit d (word ++ rest) ≡ with_number limit number (numbers_from limit 0 rest)
numbers_from-word limit d number [] rest h = absurd (none-some number h)
numbers_from-word limit d number (letter ∷ word) rest h =
    by_letter (λ o. o ≡ with_number limit number (numbers_from limit 0 rest)) limit d letter (word ++ rest)
    (λ first. numbers_from-word limit (5 * d + (letter - 84)) number word rest (rw first at h))
    (λ first last. alone word (rw (first, last) at h))
    (λ z none. absurd (none-some number (rw z at h)))
    (λ first last. absurd (none-some number (rw (first, last) at h)))
  where
    alone : (word : Name) → cond (true && is_empty word) (Some (20 * d + (letter - 64))) None ≡ Some number
        → with_number limit (20 * d + (letter - 64)) (numbers_from limit 0 (word ++ rest)) ≡ with_number limit number (numbers_from limit 0 rest)
    alone [] h = ap (λ n. with_number limit n (numbers_from limit 0 rest)) (same_Some (20 * d + (letter - 64)) number h)
    alone (x ∷ word) h = absurd (none-some number h)

-- the letters are read as numbers, and the items are those of the numbers
pub record RowRead (labels : List Name) (limit : ℕ) (letters : List ℕ) (items : List Item) : Type 0 where
  pub numbers : List ℕ
  pub read : numbers_from limit 0 letters ≡ Some numbers
  pub are : items_of labels numbers ≡ items

-- the item of a word in front of the items that follow
word_read : (labels : List Name) (marks limit number : ℕ) (word : Name) (row : List Name) (item : Item) (items : List Item)
    → IsNumber word number → number ≤ limit → item_of labels number ≡ item → RowRead labels limit (joined row) items → RowRead labels limit (word ++ joined row) (item ∷ items)
word_read labels marks limit number word row item items is within of more =
    let test : nat_le number limit ≡ true = grind (arith, nat_tests) in
    record {
      numbers = number ∷ more.numbers;
      read = numbers_from-word limit 0 number word (joined row) (number_of-placed word number is) ∙ rw (test, more.read) refl;
      are = rw (of, more.are) refl;
    }

-- the numbers of a row are read, if the limit is the count of the labels and the marks before
pub row_read : (labels : List Name) (marks limit : ℕ) (row : List Name) (items : List Item) → limit ≡ length labels + marks → AreItems labels marks row items → RowRead labels limit (joined row) items
row_read labels marks limit [] [] is m = record { numbers = []; read = refl; are = refl }
row_read labels marks limit [] (item ∷ items) is m = absurd m
row_read labels marks limit (word ∷ row) [] is m = absurd m
row_read labels marks limit (word ∷ row) (Mark ∷ items) is m =
    let more : RowRead labels (limit + 1) (joined row) items = row_read labels (marks + 1) (limit + 1) row items (omega (arith, is)) m.1 in
    record { numbers = 0 ∷ more.numbers; read = rw (m.0, more.read) refl; are = rw more.are refl }
row_read labels marks limit (word ∷ row) (Cite label ∷ items) is m =
    let inside : m.2.0 < length labels = slice_get_within labels m.2.0 label m.2.2 in
    word_read labels marks limit m.0 word row (Cite label) items m.1 (omega (arith, is, m.2.1))
    (item-cite labels m.0 m.2.0 (omega (arith, m.2.1)) inside ∙ ap Cite (get_or_from_slice_get labels m.2.0 label [] m.2.2)) (row_read labels marks limit row items is m.3)
row_read labels marks limit (word ∷ row) (Recall k ∷ items) is m =
    let number : m.0 ≡ suc (length labels + k - 1) = omega (arith, m.2.0, m.2.1) in
    word_read labels marks limit m.0 word row (Recall k) items m.1 (omega (arith, is, m.2.0, m.2.2))
    (item-recall labels m.0 (length labels + k - 1) number (omega (arith, m.2.1)) ∙ ap Recall (omega (arith, m.2.1))) (row_read labels marks limit row items is m.3)
