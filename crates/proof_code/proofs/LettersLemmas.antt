-- A word's place in the order of all words is the number that the formula gives.
use Rattle.proof_code.proofs.Words.{◌≡◌, ℕ, zero, suc, ◌+◌, ◌-◌, ◌*◌, ◌<◌, ◌≤◌, true, false, List, [], ◌∷◌, ◌++◌, map, flat_map, length, Option, Some, slice_get, get_or, refl, range_with_len, Contains, option_map, sym, ◌∙◌, ap, subst, arith, inl, inr, slice_get-map, slice_get-get_or, none-some, same_Some, cases_Bool, nat_tests, and-false, map-append, length-map, get_or-map, get_or-range_with_len, get_or-map-range_with_len, Name, leading_letters, words_with_leading, words_with_fewer_leading, IsNumber, is_last, is_leading, number_after, number_of, Contains-append_left, Contains-append_right}

-- how many words have n letters before the last, and how many have fewer
abbrev count_of_size : ℕ → ℕ
count_of_size zero = 20
count_of_size (suc n) = 5 * count_of_size n

abbrev count_below : ℕ → ℕ
count_below zero = 0
count_below (suc n) = count_below n + count_of_size n

-- the numbers from `from` on, `count` of them
abbrev row : ℕ → ℕ → List (Option ℕ)
row from count = map Some (range_with_len from count)

-- two rows, of which the second continues the first, are one row
row-append : (a m n b c : ℕ) → b ≡ a + m → c ≡ m + n → row a m ++ row b n ≡ row a c
row-append a zero n b c e f =
    let first : b ≡ a = omega arith in
    let all : c ≡ n = omega arith in
    rw (first, all) refl
row-append a (suc m) n b zero e f = absurd (omega arith)
row-append a (suc m) n b (suc c) e f = ap (λ r. Some a ∷ r) (row-append (a + 1) m n b c (omega arith) (omega arith))

-- the number at a place of a row is the first number plus the place
row-get : (a m k : ℕ) (x : Option ℕ) → slice_get (row a m) k ≡ Some x → x ≡ Some (a + k)
row-get a zero k x h = absurd (none-some x h)
row-get a (suc m) zero x h = sym (same_Some (Some a) x h) ∙ ap Some (omega arith)
row-get a (suc m) (suc k) x h = row-get (a + 1) m k x h ∙ ap Some (omega arith)

pub is_last-true : (c : ℕ) → 65 ≤ c → c ≤ 84 → is_last c ≡ true
is_last-true c low high = grind (arith, nat_tests)

pub is_leading-false : (c : ℕ) → c ≤ 84 → is_leading c ≡ false
is_leading-false c high = grind (arith, nat_tests)

-- the numbers of the words of one letter, from a letter on
numbers_of_last : (d a n : ℕ) → 65 ≤ a → a + n ≤ 85 → map (number_after d) (map (λ c. c ∷ []) (range_with_len a n)) ≡ row (20 * d + (a - 64)) n
numbers_of_last d a zero low high = refl
numbers_of_last d a (suc n) low high =
    let first : is_leading a ≡ false = is_leading-false a (omega arith) in
    let last : is_last a ≡ true = is_last-true a low (omega arith) in
    let next : 20 * d + (a + 1 - 64) ≡ 20 * d + (a - 64) + 1 = omega arith in
    rw (first, last) (ap (λ r. Some (20 * d + (a - 64)) ∷ r) (numbers_of_last d (a + 1) n (omega arith) (omega arith) ∙ ap (λ b. row b n) next))

-- one more letter in front of the words is one more digit in base 5
numbers_after : (d e letter : ℕ) (words : List Name) → is_leading letter ≡ true → 5 * d + (letter - 84) ≡ e → map (number_after d) (map (λ word. letter ∷ word) words) ≡ map (number_after e) words
numbers_after d e letter [] first is = refl
numbers_after d e letter (word ∷ words) first is = rw (first, is) (ap (λ r. number_after e word ∷ r) (numbers_after d e letter words first is))

abbrev after_letter : ℕ → List Name → List Name
after_letter letter words = map (λ word. letter ∷ word) words

pub is_leading-true : (c : ℕ) → 85 ≤ c → c ≤ 89 → is_leading c ≡ true
is_leading-true c low high = grind (arith, nat_tests)

-- words of one size after each of some letters in turn give a row, if the words give a row of
-- `size` numbers after any digits
numbers_of_first : (words : List Name) (size below d e a k : ℕ) → e ≡ 5 * d + (a - 84) → 85 ≤ a → a + k ≤ 90 → ((e : ℕ) → map (number_after e) words ≡ row (suc (e * size + below)) size)
    → map (number_after d) (flat_map (λ letter. after_letter letter words) (range_with_len a k)) ≡ row (suc (e * size + below)) (k * size)
numbers_of_first words size below d e a zero is low high listed_count = let none : 0 ≡ 0 * size = omega arith in ap (row (suc (e * size + below))) none
numbers_of_first words size below d e a (suc k) is low high listed_count =
    rw (map-append, numbers_after d e a words (is_leading-true a low (omega arith)) (sym is), listed_count e, numbers_of_first words size below d (e + 1) (a + 1) k (omega arith) (omega arith) (omega arith) listed_count)
    (row-append (suc (e * size + below)) size (k * size) (suc ((e + 1) * size + below)) (suc k * size) (omega arith) (omega arith))

-- the numbers of the words of one size, in order
numbers_of_size : (n d : ℕ) → map (number_after d) (words_with_leading n) ≡ row (suc (d * count_of_size n + count_below n)) (count_of_size n)
numbers_of_size zero d = numbers_of_last d 65 20 (omega arith) (omega arith) ∙ ap (λ b. row b 20) (omega arith)
numbers_of_size (suc n) d =
    numbers_of_first (words_with_leading n) (count_of_size n) (count_below n) d (5 * d + 1) 85 5 (omega arith) (omega arith) (omega arith) (numbers_of_size n)
    ∙ ap (λ b. row b (5 * count_of_size n)) (omega arith)

-- the numbers of all words with fewer letters
numbers_below : (n : ℕ) → map number_of (words_with_fewer_leading n) ≡ row 1 (count_below n)
numbers_below zero = refl
numbers_below (suc n) =
    rw (map-append, numbers_below n, numbers_of_size n 0)
    (row-append 1 (count_below n) (count_of_size n) (suc (0 * count_of_size n + count_below n)) (count_below n + count_of_size n) (omega arith) (omega arith))

-- the formula gives the place of a word in the order
pub number_of-placed : (word : Name) (n : ℕ) → IsNumber word n → number_of word ≡ Some n
number_of-placed word zero h = absurd h
number_of-placed word (suc n) h =
    let at : slice_get (map number_of (words_with_fewer_leading (length word))) n ≡ Some (number_of word) = slice_get-map number_of (words_with_fewer_leading (length word)) n ∙ ap (option_map number_of) h in
    let in_row : slice_get (row 1 (count_below (length word))) n ≡ Some (number_of word) = ap (λ r. slice_get r n) (sym (numbers_below (length word))) ∙ at in
    row-get 1 (count_below (length word)) n (number_of word) in_row ∙ ap Some (omega arith)

-- ---- a word with a number is in the order

Contains-after : (letter : ℕ) (words : List Name) (word : Name) → Contains words word → Contains (after_letter letter words) (letter ∷ word)
Contains-after letter words word h =
    (h.0, omega (arith, length-map words (λ (word : Name). letter ∷ word), h.1), get_or-map (λ (word : Name). letter ∷ word) words h.0 word (letter ∷ word) h.1 ∙ ap (λ (word : Name). letter ∷ word) h.2)

Contains-after_one : (letters : List ℕ) (words : List Name) (c j : ℕ) (word : Name) → j < length letters → get_or letters j 0 ≡ c → Contains words word → Contains (flat_map (λ letter. after_letter letter words) letters) (c ∷ word)
Contains-after_one [] words c j word within at h = absurd (omega arith)
Contains-after_one (letter ∷ letters) words c zero word within at h =
    rw (← at) (Contains-append_left (after_letter letter words) (flat_map (λ letter. after_letter letter words) letters) (letter ∷ word) (Contains-after letter words word h))
Contains-after_one (letter ∷ letters) words c (suc j) word within at h =
    Contains-append_right (after_letter letter words) (flat_map (λ letter. after_letter letter words) letters) (c ∷ word) (Contains-after_one letters words c j word (omega arith) at h)

-- a letter before the last letter of a word lies between U and Y
pub first_bounds : (c : ℕ) → is_leading c ≡ true → (85 ≤ c) × (c ≤ 89)
first_bounds c h = (grind (arith, nat_tests), grind (arith, nat_tests))

-- the last letter of a word lies between A and T
pub last_bounds : (c : ℕ) → is_last c ≡ true → (65 ≤ c) × (c ≤ 84)
last_bounds c h = (grind (arith, nat_tests), grind (arith, nat_tests))

-- a word to which the formula gives a number is among those of its size
Contains-word : (c : ℕ) (word : Name) (d m : ℕ) → number_after d (c ∷ word) ≡ Some m → Contains (words_with_leading (length word)) (c ∷ word)
Contains-word c [] d m h = elim (cases_Bool (is_leading c)) [
  | inl e ↦ absurd (none-some m (rw e at h))
  | inr e ↦ elim (cases_Bool (is_last c)) [
    | inl f ↦
        let bounds : (65 ≤ c) × (c ≤ 84) = last_bounds c f in
        (c - 65, omega (arith, bounds), get_or-map-range_with_len (λ letter. letter ∷ []) 65 20 (c - 65) c (c ∷ []) (omega (arith, bounds)) (omega (arith, bounds)))
    | inr f ↦ absurd (none-some m (rw (e, f) at h))
  ]
]
Contains-word c (x ∷ word) d m h = elim (cases_Bool (is_leading c)) [
  | inl e ↦
      let bounds : (85 ≤ c) × (c ≤ 89) = first_bounds c e in
      let rest : Contains (words_with_leading (length word)) (x ∷ word) = Contains-word x word (5 * d + (c - 84)) m (rw e at h) in
      Contains-after_one leading_letters (words_with_leading (length word)) c (c - 85) (x ∷ word) (omega (arith, bounds)) (get_or-range_with_len 85 5 (c - 85) 0 (omega (arith, bounds)) ∙ omega (arith, bounds)) rest
  | inr e ↦ absurd (none-some m (rw (e, and-false (is_last c)) at h))
]

-- the number that the formula gives is the word's place in the order
pub placed-number_of : (word : Name) (n : ℕ) → number_of word ≡ Some n → IsNumber word n
placed-number_of [] n h = absurd (none-some n h)
placed-number_of (c ∷ word) n h =
    let has : Contains (words_with_fewer_leading (suc (length word))) (c ∷ word) = Contains-append_right (words_with_fewer_leading (length word)) (words_with_leading (length word)) (c ∷ word) (Contains-word c word 0 n h) in
    let placed : IsNumber (c ∷ word) (suc has.0) = slice_get-get_or (words_with_fewer_leading (suc (length word))) has.0 (c ∷ word) has.1 ∙ ap Some has.2 in
    let is : suc has.0 ≡ n = same_Some (suc has.0) n (sym (number_of-placed (c ∷ word) (suc has.0) placed) ∙ h) in
    let P : ℕ → Type 0 = λ k. IsNumber (c ∷ word) k in
    subst P is placed
