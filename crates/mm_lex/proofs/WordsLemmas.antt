-- The words of a buffer, found by splitting it at the spaces.
use Rattle.mm_lex.proofs.Prelude.{◌≡◌, ℕ, ◌+◌, Bool, true, false, not, cond, ◌==◌, List, [], ◌∷◌, ◌++◌, length, ◌<◌, take, drop, count_by, nat_lt, Some, None, refl, list_all, slice_split, onto_first, position, position_or_len, before_first, after_first, sym, ◌∙◌, ap, arith, true≢false, ltb-true, ltb-false, join_with_byte-slice_split, slice_split_first, length-slice_split, prefix_len-le-length, and_parts, Name, is_visible, spaced, words_of, is_word}

abbrev is_space : ℕ → Bool
is_space c = c == 32

pub spaced-words_of : (text : List ℕ) → spaced (words_of text) ≡ text
spaced-words_of [] = refl
spaced-words_of (b ∷ text) = join_with_byte-slice_split 32 (b ∷ text)

-- a split has a first part, also with one more byte in front
first_step : (t : Bool) (b : ℕ) (parts : List Name) → (x : List ℕ) × (xs : List Name) × (parts ≡ x ∷ xs)
    → (x : List ℕ) × (xs : List Name) × (cond t ([] ∷ parts) (onto_first b parts) ≡ x ∷ xs)
first_step true b parts p = ([], parts, refl)
first_step false b parts p = (b ∷ p.0, p.1, ap (onto_first b) p.2)

-- the split of each text has a first part
pub first_part : (text : List ℕ) → (x : List ℕ) × (xs : List Name) × (slice_split is_space text ≡ x ∷ xs)
first_part [] = ([], [], refl)
first_part (b ∷ text) = first_step (is_space b) b (slice_split is_space text) (first_part text)

-- more parts after those of a split stay the same with one more byte in front
split_step : (t : Bool) (b : ℕ) (parts more : List Name) (x : List ℕ) (xs : List Name) → parts ≡ x ∷ xs
    → cond t ([] ∷ (parts ++ more)) (onto_first b (parts ++ more)) ≡ cond t ([] ∷ parts) (onto_first b parts) ++ more
split_step true b parts more x xs e = refl
split_step false b parts more x xs e = rw e refl

-- the split of two texts with a space between them is the parts of the first and then those of the
-- second
pub slice_split-space : (text more : List ℕ) → slice_split is_space (text ++ 32 ∷ more) ≡ slice_split is_space text ++ slice_split is_space more
slice_split-space [] more = refl
slice_split-space (b ∷ text) more =
    let p : (x : List ℕ) × (xs : List Name) × (slice_split is_space text ≡ x ∷ xs) = first_part text in
    ap (λ r. cond (is_space b) ([] ∷ r) (onto_first b r)) (slice_split-space text more)
    ∙ split_step (is_space b) b (slice_split is_space text) (slice_split is_space more) p.0 p.1 p.2

-- a visible byte is no space
visible_no_space : (b : ℕ) → is_visible b ≡ true → is_space b ≡ false
visible_no_space b h = by (is_space b) refl
  where
    by : (t : Bool) → is_space b ≡ t → t ≡ false
    by true e = let is : b ≡ 32 = grind (arith, e) in absurd (true≢false (sym h ∙ ap is_visible is))
    by false e = refl

-- visible bytes are split into one part
split_visible : (w : Name) → list_all is_visible w ≡ true → slice_split is_space w ≡ w ∷ []
split_visible [] h = refl
split_visible (b ∷ w) h =
    ap (λ t. cond t ([] ∷ slice_split is_space w) (onto_first b (slice_split is_space w))) (visible_no_space b (and_parts (is_visible b) (list_all is_visible w) h).0)
    ∙ ap (onto_first b) (split_visible w (and_parts (is_visible b) (list_all is_visible w) h).1)

-- each byte of a word is visible
pub word-visible : (w : Name) → is_word w ≡ true → list_all is_visible w ≡ true
word-visible [] h = cc
word-visible (b ∷ w) h = h

-- a buffer with one word has this word alone
pub words_of-one : (w : Name) → is_word w ≡ true → words_of w ≡ w ∷ []
words_of-one [] h = cc
words_of-one (b ∷ w) h = split_visible (b ∷ w) h

pub AreWords-push : (ws : List Name) (w : Name) → list_all is_word ws ≡ true → is_word w ≡ true → list_all is_word (ws ++ w ∷ []) ≡ true
AreWords-push [] w h k = rw k refl
AreWords-push (v ∷ ws) w h k =
    let parts : (is_word v ≡ true) × (list_all is_word ws ≡ true) = and_parts (is_word v) (list_all is_word ws) h in
    rw parts.0 (AreWords-push ws w parts.1 k)

-- a text whose length is not 0 has a byte
pub some_by_len : (text : List ℕ) (len : ℕ) → len ≡ length text → false ≡ (len == 0) → 0 < length text
some_by_len [] len e h = absurd (no h e)
  where
    no : false ≡ (len == 0) → len ≡ 0 → ⊥
    no h e = grind (arith, h, e)
some_by_len (b ∷ text) len e h = omega arith

-- ---- the words of a buffer, one after another

-- a text without a space is one part, also with one more byte in front
whole_step : (t : Bool) (b : ℕ) (text : List ℕ) → cond (not t) (1 + position_or_len is_space text) 0 ≡ length (b ∷ text)
    → (position_or_len is_space text ≡ length text → slice_split is_space text ≡ text ∷ [])
    → cond t ([] ∷ slice_split is_space text) (onto_first b (slice_split is_space text)) ≡ (b ∷ text) ∷ []
whole_step true b text k whole = absurd (omega (arith, k))
whole_step false b text k whole = ap (onto_first b) (whole (omega (arith, k)))

-- a text without a space is one part
slice_split-whole : (text : List ℕ) → position_or_len is_space text ≡ length text → slice_split is_space text ≡ text ∷ []
slice_split-whole [] h = refl
slice_split-whole (b ∷ text) h = whole_step (is_space b) b text h (slice_split-whole text)

-- if each part is a word, the parts after a space are the words there
words_of-after : (text rest : List ℕ) (w : Name) → slice_split is_space text ≡ w ∷ slice_split is_space rest → list_all is_word (slice_split is_space text) ≡ true → slice_split is_space rest ≡ words_of rest
words_of-after text [] w e k = absurd (true≢false (sym (and_parts (is_word w) false (sym (ap (list_all is_word) e) ∙ k)).1))
words_of-after text (b ∷ rest) w e k = refl

words_of-last : (text : List ℕ) → position_or_len is_space text ≡ length text → 0 < length text → words_of text ≡ text ∷ []
words_of-last [] all some = absurd (omega (arith, some))
words_of-last (b ∷ text) all some = slice_split-whole (b ∷ text) all

words_of-first : (text : List ℕ) → position_or_len is_space text < length text → list_all is_word (words_of text) ≡ true
    → words_of text ≡ take (position_or_len is_space text) text ∷ words_of (drop (position_or_len is_space text + 1) text)
words_of-first [] inside k = absurd (omega (arith, inside))
words_of-first (b ∷ text) inside k =
    let split = slice_split_first is_space (b ∷ text) 0 inside in
    split ∙ ap (λ r. before_first is_space (b ∷ text) ∷ r) (words_of-after (b ∷ text) (after_first is_space (b ∷ text)) (before_first is_space (b ∷ text)) split k)

-- where the search for a space ends
module _ (text : List ℕ) where
  -- if there is a space, the words are the one before it and then those after it
  pub at_position : (n : ℕ) → Some n ≡ position is_space text → list_all is_word (words_of text) ≡ true → words_of text ≡ take n text ∷ words_of (drop (n + 1) text)
  at_position n = by (nat_lt (position_or_len is_space text) (length text)) refl
    where
      by : (t : Bool) → nat_lt (position_or_len is_space text) (length text) ≡ t → Some n ≡ cond t (Some (position_or_len is_space text)) None → list_all is_word (words_of text) ≡ true → words_of text ≡ take n text ∷ words_of (drop (n + 1) text)
      by true e h k = let same : n ≡ position_or_len is_space text = cc in rw same (words_of-first text (ltb-true _ _ e) k)
      by false e h k = cc

  -- if there is no space, there is one word
  pub no_position : None ≡ position is_space text → 0 < length text → words_of text ≡ text ∷ []
  no_position = by (nat_lt (position_or_len is_space text) (length text)) refl
    where
      by : (t : Bool) → nat_lt (position_or_len is_space text) (length text) ≡ t → None ≡ cond t (Some (position_or_len is_space text)) None → 0 < length text → words_of text ≡ text ∷ []
      by true e h some = cc
      by false e h some = words_of-last text (omega (arith, ltb-false _ _ e, prefix_len-le-length (λ c. not (is_space c)) text)) some

-- the words after the first are words
pub AreWords-after : (ws vs : List Name) (w : Name) → ws ≡ w ∷ vs → list_all is_word ws ≡ true → list_all is_word vs ≡ true
AreWords-after ws vs w e k = (and_parts (is_word w) (list_all is_word vs) (sym (ap (list_all is_word) e) ∙ k)).1

pub length-words_of : (text : List ℕ) → 0 < length text → length (words_of text) ≡ count_by is_space text + 1
length-words_of [] some = absurd (omega (arith, some))
length-words_of (b ∷ text) some = length-slice_split is_space (b ∷ text)

-- a word is split into itself
split_word : (w : Name) → is_word w ≡ true → slice_split is_space w ≡ w ∷ []
split_word [] h = cc
split_word (b ∷ w) h = split_visible (b ∷ w) h

-- words with a space between two are split into these words
split_spaced : (w : Name) (ws : List Name) → is_word w ≡ true → list_all is_word ws ≡ true → slice_split is_space (spaced (w ∷ ws)) ≡ w ∷ ws
split_spaced w [] h k = split_word w h
split_spaced w (v ∷ ws) h k =
    slice_split-space w (spaced (v ∷ ws))
    ∙ (ap (λ r. r ++ slice_split is_space (spaced (v ∷ ws))) (split_word w h)
    ∙ ap (λ r. w ∷ r) (split_spaced v ws (and_parts (is_word v) (list_all is_word ws) k).0 (and_parts (is_word v) (list_all is_word ws) k).1))

-- the words of a buffer with at least one word are the parts of its split
same_words : (w : Name) (ws : List Name) → is_word w ≡ true → slice_split is_space (spaced (w ∷ ws)) ≡ w ∷ ws → words_of (spaced (w ∷ ws)) ≡ w ∷ ws
same_words [] ws h e = cc
same_words (b ∷ w) [] h e = e
same_words (b ∷ w) (v ∷ ws) h e = e

pub words_of-spaced : (ws : List Name) → list_all is_word ws ≡ true → words_of (spaced ws) ≡ ws
words_of-spaced [] h = refl
words_of-spaced (w ∷ ws) h =
    let parts : (is_word w ≡ true) × (list_all is_word ws ≡ true) = and_parts (is_word w) (list_all is_word ws) h in
    same_words w ws parts.0 (split_spaced w ws parts.0 parts.1)
