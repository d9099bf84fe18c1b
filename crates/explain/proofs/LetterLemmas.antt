-- Letters that are read up to an index, and the effect of the next letter.
use Rattle.explain.proofs.Words.{◌≡◌, ◌≢◌, ℕ, ◌+◌, ◌-◌, ◌*◌, ◌<◌, ◌≤◌, Bool, true, false, ◌&&◌, nat_le, List, [], ◌∷◌, ◌++◌, length, Option, Some, None, slice_get, refl, option_map, sym, ◌∙◌, ap, subst, arith, append_assoc, append-nil, length-append, inl, inr, list_all-append, or_left, or_right, le-leb, Name, Item, IsNumber, is_leading, is_last, number_after, items_of, before_rest, numbers_from, starts_with_mark, WritesRow, is_leading-true, number_of-placed, placed-number_of, first_bounds, last_bounds, is_leading-false, is_last-true, WritesRow-read, LetterBreak, LetterFault, marks_in, IsEndOrMark, fault_index, IsAllowedBeginning, IsTooGreat, BeginsWith, Breaks, IsLetterBreak, zeros, IsReadTo}
use Rattle.explain.specs.Breaks.{IsNotLetter}
use Rattle.explain.proofs.LetterNumberLemmas.{at-append, not-empty, marks-zeros, zeros-number, zeros-mark, before-push, over, last-over, zero-or}

-- ---- no letters are read yet

before-none : (o : Option (List ℕ)) → o ≡ before_rest [] o
before-none None = refl
before-none (Some xs) = refl

pub read-none : (labels : ℕ) (letters : List ℕ) → starts_with_mark letters ≡ false → IsReadTo labels letters 0 labels 0 0
read-none labels letters starts = record {
  numbers = [];
  front = [];
  begun = [];
  rest = letters;
  whole = refl;
  at_begin = refl;
  at_index = refl;
  starts = starts;
  reads = λ text. before-none (numbers_from labels 0 text);
  reads_begun = λ text. refl;
  counts_begun = λ word. refl;
  firsts = refl;
  zero_digits = λ e. refl;
  none_begun = λ e. refl;
  limit_is = omega arith;
  few = omega arith;
  small = omega arith;
  room = λ e. absurd (e refl);
}

module _ (labels : ℕ) (letters : List ℕ) (index limit digits begin : ℕ) (r : IsReadTo labels letters index limit digits begin) where
  -- the letters that are read, under a list of so many labels
  module _ (names : List Name) (count : length names ≡ labels) where
    front-starts : (front more : List ℕ) → letters ≡ front ++ more → starts_with_mark front ≡ false
    front-starts [] more e = refl
    front-starts (x ∷ front) more e = sym (ap starts_with_mark e) ∙ r.starts

    -- the letters before the word that is begun write the items of the numbers read so far
    writes : WritesRow names r.front (items_of names r.numbers)
    writes =
        let read : numbers_from labels 0 r.front ≡ Some r.numbers =
        ap (numbers_from labels 0) (sym (append-nil r.front)) ∙ (r.reads [] ∙ ap Some (append-nil r.numbers)) in
        WritesRow-read names r.front r.numbers (front-starts r.front (r.begun ++ r.rest) r.whole) (ap (λ n. numbers_from n 0 r.front) count ∙ read)

    -- the greatest allowed number is the count of the labels and the marks so far
    greatest : limit ≡ length names + marks_in (items_of names r.numbers)
    greatest = r.limit_is ∙ (ap (λ n. n + zeros r.numbers) (sym count) ∙ ap (λ z. length names + z) (sym (marks-zeros names r.numbers)))

    -- the letters that are begun are the beginning of a word with an allowed number, or there are
    -- none
    allowed : IsAllowedBeginning limit r.begun
    allowed = elim (zero-or digits) [ inl e ↦ inl (r.zero_digits e) | inr e ↦ inr (65 ∷ [], 20 * digits + 1, placed-number_of (r.begun ++ 65 ∷ []) (20 * digits + 1) (r.counts_begun (65 ∷ [])), let q = r.room e in omega (arith, q)) ]

    -- a rule that the begun word breaks at the next letter is the rule that the letters break
    pub broken-at : (broken : LetterBreak) (fault : LetterFault) (letter : ℕ) → broken.fault ≡ fault → broken.letter ≡ letter → Breaks fault limit (items_of names r.numbers) r.begun r.rest
        → letter ≡ fault_index fault (length r.front) (length r.begun) → IsLetterBreak names letters broken
    broken-at broken fault letter is at breaks place = record {
      front = r.front;
      items = items_of names r.numbers;
      begun = r.begun;
      rest = r.rest;
      whole = r.whole;
      reads = writes;
      firsts = r.firsts;
      allowed = subst (λ n. IsAllowedBeginning n r.begun) greatest allowed;
      breaks = subst (λ f. Breaks f (length names + marks_in (items_of names r.numbers)) (items_of names r.numbers) r.begun r.rest) (sym is)
          (subst (λ n. Breaks fault n (items_of names r.numbers) r.begun r.rest) greatest breaks);
      letter_is = at ∙ (place ∙ ap (λ f. fault_index f (length r.front) (length r.begun)) (sym is));
    }

    -- if all letters are read, they write items
    pub all-read : letters ≡ r.front → (items : List Item) × WritesRow names letters items
    all-read e = (items_of names r.numbers, subst (λ l. WritesRow names l (items_of names r.numbers)) (sym e) writes)

  -- the letters are those that are read, followed by the rest
  split : letters ≡ (r.front ++ r.begun) ++ r.rest
  split = r.whole ∙ sym (append_assoc r.front r.begun r.rest)

  -- the number of letters that are read is the index
  long : length (r.front ++ r.begun) ≡ index
  long = length-append r.front r.begun ∙ r.at_index

  -- if a list begins with as many elements as it has in all, nothing follows them
  drop-end : (xs ys : List ℕ) (i : ℕ) → length xs ≡ i → length (xs ++ ys) ≤ i → ys ≡ []
  drop-end xs [] i e h = refl
  drop-end xs (y ∷ ys) i e h = absurd (let l = length-append xs (y ∷ ys) in omega (arith, e, h, l))

  -- if the index is not below the number of letters, none are left
  pub ended : length letters ≤ index → r.rest ≡ []
  ended h = drop-end (r.front ++ r.begun) r.rest index long (subst (λ l. length l ≤ index) split h)

  pub ends-here : length letters ≤ index → digits ≡ 0 → letters ≡ r.front
  ends-here h e = r.whole ∙ (ap (λ b. r.front ++ (b ++ r.rest)) (r.zero_digits e) ∙ (ap (λ x. r.front ++ x) (ended h) ∙ append-nil r.front))

  pub nothing-left : length letters ≤ index → IsEndOrMark r.rest
  nothing-left h = subst IsEndOrMark (sym (ended h)) tt

  pub some-begun : (digits ≡ 0 → ⊥) → r.begun ≢ []
  some-begun h e = h (r.none_begun e)

  module _ (letter : ℕ) (here : slice_get letters index ≡ Some letter) where
    -- the letter at the index is the first one of the rest
    next : (more : List ℕ) × (r.rest ≡ letter ∷ more)
    next = at-append (r.front ++ r.begun) r.rest index letter long (sym (ap (λ l. slice_get l index) split) ∙ here)

    pub breaks-here : (P : ℕ → Type 0) → P letter → BeginsWith P r.rest
    breaks-here P p = subst (BeginsWith P) (sym next.1) p

    pub ends-so : letter ≡ 90 → IsEndOrMark r.rest
    ends-so e = subst IsEndOrMark (sym next.1) e

    -- a word or a mark ends with this letter
    done : (n limit' : ℕ) → ((text : List ℕ) → numbers_from limit digits (letter ∷ text) ≡ option_map (λ more. n ∷ more) (numbers_from limit' 0 text))
        → limit' ≡ labels + zeros (r.numbers ++ n ∷ []) → zeros (r.numbers ++ n ∷ []) ≤ index + 1 → IsReadTo labels letters (index + 1) limit' 0 (index + 1)
    done n limit' step limit_is few = record {
      numbers = r.numbers ++ n ∷ [];
      front = r.front ++ (r.begun ++ letter ∷ []);
      begun = [];
      rest = next.0;
      whole = r.whole ∙ (ap (λ x. r.front ++ (r.begun ++ x)) next.1 ∙ (ap (λ x. r.front ++ x) (sym (append_assoc r.begun (letter ∷ []) next.0)) ∙ sym (append_assoc r.front (r.begun ++ letter ∷ []) next.0)));
      at_begin = longer;
      at_index = let l = longer in omega (arith, l);
      starts = r.starts;
      reads = λ text.
          ap (numbers_from labels 0) (append_assoc r.front (r.begun ++ letter ∷ []) text ∙ ap (λ x. r.front ++ x) (append_assoc r.begun (letter ∷ []) text))
          ∙ (r.reads (r.begun ++ letter ∷ text) ∙ (ap (before_rest r.numbers) (r.reads_begun (letter ∷ text) ∙ step text) ∙ before-push r.numbers n (numbers_from limit' 0 text)));
      reads_begun = λ text. refl;
      counts_begun = λ word. refl;
      firsts = refl;
      zero_digits = λ e. refl;
      none_begun = λ e. refl;
      limit_is = limit_is;
      few = few;
      small = omega arith;
      room = λ e. absurd (e refl);
    }
      where
        longer : length (r.front ++ (r.begun ++ letter ∷ [])) ≡ index + 1
        longer = let a = length-append r.front (r.begun ++ letter ∷ []) in let b = length-append r.begun (letter ∷ []) in let c = r.at_index in omega (arith, a, b, c)

    pub number-read : 65 ≤ letter → letter ≤ 84 → 20 * digits + (letter - 64) ≤ limit → IsReadTo labels letters (index + 1) limit 0 (index + 1)
    number-read low high within =
        let zs = zeros-number r.numbers (20 * digits + (letter - 64)) (omega (arith, low)) in
        done (20 * digits + (letter - 64)) limit step (r.limit_is ∙ ap (λ z. labels + z) (sym zs)) (let f = r.few in omega (arith, zs, f))
      where
        first : is_leading letter ≡ false
        first = is_leading-false letter high

        last : is_last letter ≡ true
        last = is_last-true letter low high

        fits : nat_le (20 * digits + (letter - 64)) limit ≡ true
        fits = le-leb (20 * digits + (letter - 64)) limit within

        step : (text : List ℕ) → numbers_from limit digits (letter ∷ text) ≡ option_map (λ more. (20 * digits + (letter - 64)) ∷ more) (numbers_from limit 0 text)
        step text = rw (first, last, fits) refl

    pub mark-read : letter ≡ 90 → digits ≡ 0 → IsReadTo labels letters (index + 1) (limit + 1) 0 (index + 1)
    mark-read is none =
        let zs = zeros-mark r.numbers in
        done 0 (limit + 1) step (let l = r.limit_is in omega (arith, zs, l)) (let f = r.few in omega (arith, zs, f))
      where
        step : (text : List ℕ) → numbers_from limit digits (letter ∷ text) ≡ option_map (λ more. 0 ∷ more) (numbers_from (limit + 1) 0 text)
        step text = ap (λ l. numbers_from limit digits (l ∷ text)) is ∙ ap (λ d. numbers_from limit d (90 ∷ text)) none

    pub letter-read : (digits' : ℕ) → 85 ≤ letter → letter ≤ 89 → digits' ≡ 5 * digits + (letter - 84) → 20 * digits' < limit → IsReadTo labels letters (index + 1) limit digits' begin
    letter-read digits' low high is within = record {
      numbers = r.numbers;
      front = r.front;
      begun = r.begun ++ letter ∷ [];
      rest = next.0;
      whole = r.whole ∙ (ap (λ x. r.front ++ (r.begun ++ x)) next.1 ∙ ap (λ x. r.front ++ x) (sym (append_assoc r.begun (letter ∷ []) next.0)));
      at_begin = r.at_begin;
      at_index = let b = length-append r.begun (letter ∷ []) in let c = r.at_index in omega (arith, b, c);
      starts = r.starts;
      reads = r.reads;
      reads_begun = λ text. ap (numbers_from limit 0) (append_assoc r.begun (letter ∷ []) text) ∙ (r.reads_begun (letter ∷ text) ∙ (first-goes text ∙ ap (λ d. numbers_from limit d text) (sym is)));
      counts_begun = λ word. ap (number_after 0) (append_assoc r.begun (letter ∷ []) word) ∙ (r.counts_begun (letter ∷ word) ∙ (first-counts word ∙ ap (λ d. number_after d word) (sym is)));
      firsts = list_all-append is_leading r.begun (letter ∷ []) ∙ (ap (λ t. t && (is_leading letter && true)) r.firsts ∙ ap (λ t. t && true) first);
      zero_digits = λ e. absurd (omega (arith, e, is, low));
      none_begun = λ e. absurd (not-empty r.begun letter e);
      limit_is = r.limit_is;
      few = let f = r.few in omega (arith, f);
      small = omega (arith, within);
      room = λ e. within;
    }
      where
        first : is_leading letter ≡ true
        first = is_leading-true letter low high

        first-goes : (text : List ℕ) → numbers_from limit digits (letter ∷ text) ≡ numbers_from limit (5 * digits + (letter - 84)) text
        first-goes text = rw first refl

        first-counts : (word : Name) → number_after digits (letter ∷ word) ≡ number_after (5 * digits + (letter - 84)) word
        first-counts word = rw first refl

    -- the number of a word that begins so is counted from the letters that are begun
    counted : (word : Name) (n : ℕ) → IsNumber (r.begun ++ letter ∷ word) n → number_after digits (letter ∷ word) ≡ Some n
    counted word n is = sym (r.counts_begun (letter ∷ word)) ∙ number_of-placed (r.begun ++ letter ∷ word) n is

    pub word-over : 65 ≤ letter → letter ≤ 84 → limit < 20 * digits + (letter - 64) → BeginsWith (IsTooGreat limit r.begun) r.rest
    word-over low high h =
        breaks-here (IsTooGreat limit r.begun) (or_right (is_leading letter) (is_last letter) (is_last-true letter low high), λ word n is. last-over limit digits letter word n (is_leading-false letter high) h (counted word n is))

    pub begun-over : (digits' : ℕ) → 85 ≤ letter → letter ≤ 89 → digits' ≡ 5 * digits + (letter - 84) → limit ≤ 20 * digits' → BeginsWith (IsTooGreat limit r.begun) r.rest
    begun-over digits' low high is h =
        breaks-here (IsTooGreat limit r.begun) (
          or_left (is_leading letter) (is_last letter) first,
          λ word n placed.
              over limit (5 * digits + (letter - 84)) word n (omega (arith, h, is)) (sym (reads_begun word) ∙ counted word n placed),
        )
      where
        first : is_leading letter ≡ true
        first = is_leading-true letter low high

        reads_begun : (word : Name) → number_after digits (letter ∷ word) ≡ number_after (5 * digits + (letter - 84)) word
        reads_begun word = rw first refl

    pub other-here : (65 ≤ letter → letter ≤ 84 → ⊥) → (85 ≤ letter → letter ≤ 89 → ⊥) → letter ≢ 90 → BeginsWith IsNotLetter r.rest
    other-here last first mark = breaks-here IsNotLetter (not-first, not-last, mark)
      where
        not-first : is_leading letter ≡ false
        not-first = by (is_leading letter) refl
          where
            by : (t : Bool) → is_leading letter ≡ t → is_leading letter ≡ false
            by false e = e
            by true e = let b = first_bounds letter e in absurd (first b.0 b.1)

        not-last : is_last letter ≡ false
        not-last = by (is_last letter) refl
          where
            by : (t : Bool) → is_last letter ≡ t → is_last letter ≡ false
            by false e = e
            by true e = let b = last_bounds letter e in absurd (last b.0 b.1)
