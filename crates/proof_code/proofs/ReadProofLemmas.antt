-- A compressed proof that is read without its mandatory labels.
use Rattle.proof_code.proofs.Words.{◌≡◌, ℕ, ◌+◌, ◌-◌, ◌*◌, ◌^◌, ◌<◌, suc, ◌≤◌, true, false, cond, ◌==◌, nat_le, List, [], ◌∷◌, ◌++◌, length, take, drop, slice_index_or, Option, Some, None, refl, list_all, sym, ◌∙◌, ap, arith, true≢false, length-append, append_assoc, nat_tests, drop_more, list_all-append, none-some, and_parts, Name, is_word, AreWords, Item, items_of, before_rest, IsByteEffect, IsNextRead, is_last, value_after, ends_number, false_from_ne_true, share_label, IsHeadingWithNumbers, ListAndRest, list_and_rest, letters_of, starts_with_mark, numbers_from, left_parenthesis, right_parenthesis, WritesCompressed, take-append_seam}
use Rattle.proof_code.proofs.LettersLemmas.{first_bounds, last_bounds}
use Rattle.proof_code.proofs.LetterItemLemmas.{numbers_from-over, RowIsRead, WritesRow-read, read-WritesRow}
use Rattle.proof_code.proofs.ListingLemmas.{Counted}
use Rattle.proof_code.proofs.RowOfNumbers.{joined}
use Rattle.proof_code.proofs.StepLemmas.{by_kind}
use Rattle.proof_code.proofs.TextLemmas.{letters_of-spaced}
use Rattle.proof_code.proofs.WritesLemmas.{IsHeader, header-read, row_after, written_after, starts_with_mark-spaced}

-- ---- the letters

-- these numbers are read, and come before those of the rest of the text
abbrev pub IsRead : ℕ → List ℕ → ℕ → ℕ → List ℕ → List ℕ → Type 0
IsRead labels text limit digits numbers rest =
    numbers_from labels 0 (letters_of text) ≡ before_rest numbers (numbers_from limit digits (letters_of rest))

before-more : (numbers more : List ℕ) (o : Option (List ℕ)) → before_rest numbers (before_rest more o) ≡ before_rest (numbers ++ more) o
before-more numbers more None = refl
before-more numbers more (Some rest) = ap Some (sym (append_assoc numbers more rest))

-- the numbers that a byte ends come after those that were read
pub next-read : (before : List ℕ) (limit digits byte : ℕ) (more : List ℕ) (limit' digits' : ℕ) → IsByteEffect limit digits byte more limit' digits' → IsNextRead before limit digits byte (before ++ more) limit' digits'
next-read before limit digits byte more limit' digits' goes =
    λ text. ap (before_rest before) (goes text) ∙ before-more before more (numbers_from limit' digits' (letters_of text))

-- one more byte is read
pub read-more : (labels : ℕ) (text : List ℕ) (limit digits : ℕ) (numbers bytes : List ℕ) (index : ℕ) → IsRead labels text limit digits numbers (drop index bytes)
    → (numbers' : List ℕ) (limit' digits' next : ℕ) → next ≡ index + 1 → index < length bytes → IsNextRead numbers limit digits (slice_index_or bytes index 0) numbers' limit' digits'
    → IsRead labels text limit' digits' numbers' (drop next bytes)
read-more labels text limit digits numbers bytes index read numbers' limit' digits' next next-is within goes =
    rw next-is (read ∙ (ap (λ rest. before_rest numbers (numbers_from limit digits (letters_of rest))) (drop_more bytes index 0 within) ∙ goes (drop (index + 1) bytes)))

module _ (limit most digits byte : ℕ) (begun : digits ≤ most) (beyond : limit + most < 2 ^ 64) where
  -- the largest value that is valid with the byte
  abbrev bound : ℕ
  bound = cond (ends_number byte) limit most

  -- letters with a byte whose value is not valid give no numbers
  pub over_limit : limit < 20 * most + 20 → bound < value_after digits byte → (text : List ℕ) → numbers_from limit digits (letters_of (byte ∷ text)) ≡ None
  over_limit room over text =
      by_kind (numbers_from limit digits (letters_of (byte ∷ text)) ≡ None) byte
      (λ f.
      let bounds = first_bounds byte f in
      let tests : ((byte == 32) ≡ false) × ((byte == 90) ≡ false) × (is_last byte ≡ false) = (grind (arith, nat_tests, bounds), grind (arith, nat_tests, bounds), grind (arith, nat_tests, bounds)) in
      rw (tests.0, f) (numbers_from-over limit (5 * digits + (byte - 84)) (letters_of text) (omega (arith, room, rw (tests.1, tests.2, f) at over))))
      (λ f l.
      let bounds = last_bounds byte l in
      let test : (byte == 32) ≡ false = grind (arith, nat_tests, bounds) in
      let above : nat_le (20 * digits + (byte - 64)) limit ≡ false = grind (arith, nat_tests, rw (f, l) at over) in
      rw (test, f, l, above) refl)
      (λ e. absurd (omega (arith, begun, rw e at over)))
      (λ e.
      let some : (digits == 0) ≡ false = false_from_ne_true (digits == 0) (λ z. absurd (omega (arith, rw (e, z) at over))) in
      rw (e, some) refl)
      (λ f l s m. rw (s, f, l, m) refl)

-- ---- the whole proof

module _ (tokens before : List Name) (letters : List ℕ) (count : ℕ) (starts : tokens ≡ left_parenthesis ∷ before) (visible : list_all is_word tokens ≡ true) (found : Counted (list_and_rest before) letters count) where
  -- the header that was read
  abbrev header : ListAndRest
  header = found.0

  -- its parts are those of the definition
  is : IsHeader before header
  is = header-read before header found.1

  -- the tokens after the `)` are words
  rest_visible : list_all is_word header.rest ≡ true
  rest_visible =
      let all : list_all is_word (header.listed ++ right_parenthesis ∷ header.rest) ≡ true = sym (ap (λ ws. list_all is_word (left_parenthesis ∷ ws)) is.whole) ∙ (sym (ap (list_all is_word) starts) ∙ visible) in
      (and_parts (list_all is_word header.listed) (list_all is_word header.rest) (sym (list_all-append is_word header.listed (right_parenthesis ∷ header.rest)) ∙ all)).1

  module _ (mandatory limit : ℕ) (limit_is : limit ≡ mandatory + count) where
    -- the bytes of the letters are those of the words after the `)`, joined
    letters_are : letters_of letters ≡ joined header.rest
    letters_are = ap letters_of (sym found.2) ∙ letters_of-spaced header.rest rest_visible

    -- they begin with a mark exactly if the joined words do
    first_is : starts_with_mark letters ≡ starts_with_mark (joined header.rest)
    first_is = ap starts_with_mark (sym found.2) ∙ starts_with_mark-spaced header.rest rest_visible

    -- the limit is the number of mandatory labels and listed ones
    numbered : (labels : List Name) → length labels ≡ mandatory → length (labels ++ header.listed) ≡ limit
    numbered labels long = omega (arith, length-append labels header.listed, found.3, limit_is, long)

    -- if the proof writes items, its letters are read, and the items are those of their numbers
    is_row : (labels : List Name) (items : List Item) → WritesCompressed tokens labels items → RowIsRead (labels ++ header.listed) (joined header.rest) items
    is_row labels items w = read-WritesRow (labels ++ header.listed) (joined header.rest) items (row_after tokens before starts header found.1 labels items w).1

    -- if the letters begin with a mark, the proof writes nothing
    pub marked_first : starts_with_mark letters ≡ true → (labels : List Name) (items : List Item) → WritesCompressed tokens labels items → ⊥
    marked_first h labels items w = true≢false (sym h ∙ (first_is ∙ (is_row labels items w).starts))

    -- if the letters give no numbers, the proof writes nothing
    pub unnumbered : numbers_from limit 0 (letters_of letters) ≡ None → (labels : List Name) → length labels ≡ mandatory → (items : List Item) → WritesCompressed tokens labels items → ⊥
    unnumbered h labels long items w =
        let row : RowIsRead (labels ++ header.listed) (joined header.rest) items = is_row labels items w in
        none-some row.numbers (sym h ∙ (ap (numbers_from limit 0) letters_are ∙ (ap (λ l. numbers_from l 0 (joined header.rest)) (sym (numbered labels long)) ∙ row.read)))

    -- if the letters give numbers, the proof is read as its listed labels and these numbers
    pub heading : (numbers : List ℕ) → starts_with_mark letters ≡ false → numbers_from limit 0 (letters_of letters) ≡ Some numbers → IsHeadingWithNumbers tokens mandatory before count numbers
    heading numbers first read = record {
      listed = header.listed;
      rest = header.rest;
      starts = starts;
      whole = is.whole;
      labels = is.labels;
      many = found.3;
      none_shared = λ labels long apart.
          written_after tokens before starts header found.1 labels (items_of (labels ++ header.listed) numbers) apart
          (WritesRow-read (labels ++ header.listed) (joined header.rest) numbers (sym first_is ∙ first)
          (ap (λ l. numbers_from l 0 (joined header.rest)) (numbered labels long) ∙ (ap (numbers_from limit 0) (sym letters_are) ∙ read)));
      shared = λ labels shared items w. true≢false (sym shared ∙ (row_after tokens before starts header found.1 labels items w).0);
    }

-- ---- with the mandatory labels

module _ (tokens mandatory words : List Name) (many count : ℕ) (numbers : List ℕ) (many_is : many ≡ length mandatory) (h : IsHeadingWithNumbers tokens many words count numbers) where
  -- the first `count` words are the listed labels
  listed-is : take count words ≡ h.listed
  listed-is = ap (take count) h.whole ∙ (ap (λ n. take n (h.listed ++ right_parenthesis ∷ h.rest)) (sym h.many) ∙ take-append_seam h.listed (right_parenthesis ∷ h.rest))

  -- if one of them is a mandatory label, the proof writes nothing
  pub shared-none : share_label mandatory (take count words) ≡ true → (items : List Item) → WritesCompressed tokens mandatory items → ⊥
  shared-none s = h.shared mandatory (ap (share_label mandatory) (sym listed-is) ∙ s)

  -- otherwise the proof writes the items of the numbers
  pub apart-written : share_label mandatory (take count words) ≡ false → WritesCompressed tokens mandatory (items_of (mandatory ++ take count words) numbers)
  apart-written s = rw listed-is (h.none_shared mandatory (sym many_is) (ap (share_label mandatory) (sym listed-is) ∙ s))

-- ---- the table of the labels

-- the labels, with so many of the words that are left, are all labels
pub record AreAdded (all labels words : List Name) (left : ℕ) : Type 0 where
  pub joined : labels ++ take left words ≡ all
  pub some : left ≤ length words
  pub visible : AreWords words

-- the first of these words is added to the labels
pub one-added : (all labels words : List Name) (left next : ℕ) (label : Name) (rest new : List Name) → AreAdded all labels words left → words ≡ label ∷ rest → left ≡ suc next → new ≡ labels ++ label ∷ [] → AreAdded all new rest next
one-added all labels words left next label rest new added first more is =
    let taken : take left words ≡ label ∷ take next rest = ap (λ n. take n words) more ∙ ap (take (suc next)) first in
    record {
      joined = ap (λ ws. ws ++ take next rest) is ∙ (append_assoc labels (label ∷ []) (take next rest) ∙ (ap (λ ws. labels ++ ws) (sym taken) ∙ added.joined));
      some = omega (arith, more, added.some, ap length first);
      visible = (and_parts (is_word label) (list_all is_word rest) (sym (ap (list_all is_word) first) ∙ added.visible)).1;
    }
