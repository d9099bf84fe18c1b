-- Lines that are made of words, and the words that they split into.
use Rattle.event_lines.proofs.Words.{◌≡◌, ℕ, ◌==◌, Bool, true, false, ◌||◌, List, [], ◌∷◌, ◌++◌, codes, flat_map, refl, AllByRecursion, list_any, onto_first, slice_split, sym, ◌∙◌, ap, append_assoc, append-nil, eq-eqb, list_any-append, slice_split-cons_yes, slice_split-cons_no, split_at, spaced, spaced_word}

-- the byte is not in the text
abbrev pub Without : ℕ → List ℕ → Type 0
Without c bytes = list_any (λ b. b == c) bytes ≡ false

-- if the disjunction of two tests fails, neither test passes
neither : (a b : Bool) → (a || b) ≡ false → (a ≡ false) × (b ≡ false)
neither true b h = absurd (cc)
neither false b h = (refl, h)

pub without-append : (c : ℕ) (xs ys : List ℕ) → Without c xs → Without c ys → Without c (xs ++ ys)
without-append c xs ys x y = list_any-append (λ b. b == c) xs ys ∙ (ap (λ b. b || list_any (λ b. b == c) ys) x ∙ y)

-- a text without the separator is one piece
pub split_one : (c : ℕ) (xs : List ℕ) → Without c xs → split_at c xs ≡ xs ∷ []
split_one c [] none = refl
split_one c (x ∷ xs) none =
    let parts : ((x == c) ≡ false) × (list_any (λ b. b == c) xs ≡ false) = neither (x == c) (list_any (λ b. b == c) xs) none in
    slice_split-cons_no (λ b. b == c) x xs parts.0 ∙ ap (onto_first x) (split_one c xs parts.1)

-- a text without the separator, before a separator, is the first piece
pub split_before : (c : ℕ) (xs ys : List ℕ) → Without c xs → split_at c (xs ++ c ∷ ys) ≡ xs ∷ split_at c ys
split_before c [] ys none = slice_split-cons_yes (λ b. b == c) c ys (eq-eqb c c refl)
split_before c (x ∷ xs) ys none =
    let parts : ((x == c) ≡ false) × (list_any (λ b. b == c) xs ≡ false) = neither (x == c) (list_any (λ b. b == c) xs) none in
    slice_split-cons_no (λ b. b == c) x (xs ++ c ∷ ys) parts.0 ∙ ap (onto_first x) (split_before c xs ys parts.1)

-- a line of words splits into these words at its spaces
pub split_words : (word : List ℕ) (words : List (List ℕ)) → Without 32 word → AllByRecursion (Without 32) words
    → split_at 32 (word ++ spaced words) ≡ word ∷ words
split_words word [] one none = ap (split_at 32) (append-nil word) ∙ split_one 32 word one
split_words word (w ∷ words) one (next, others) =
    split_before 32 word (w ++ spaced words) one ∙ ap (λ l. word ∷ l) (split_words w words next others)

-- a line of words and a text splits into these words and those of the text
pub split_text : (word : List ℕ) (words : List (List ℕ)) (text : List ℕ) → Without 32 word → AllByRecursion (Without 32) words
    → split_at 32 (word ++ (spaced words ++ codes " " ++ text)) ≡ (word ∷ words) ++ split_at 32 text
split_text word [] text one none = split_before 32 word text one
split_text word (w ∷ words) text one (next, others) =
    let more : spaced (w ∷ words) ++ codes " " ++ text ≡ 32 ∷ (w ++ (spaced words ++ codes " " ++ text))
    = append_assoc (spaced (w ∷ words)) (codes " ") text
    ∙ (append_assoc (spaced_word w) (spaced words) (codes " " ++ text)
    ∙ ap (λ l. 32 ∷ (w ++ l)) (sym (append_assoc (spaced words) (codes " ") text))) in
    ap (λ l. split_at 32 (word ++ l)) more
    ∙ (split_before 32 word (w ++ (spaced words ++ codes " " ++ text)) one
    ∙ ap (λ l. word ∷ l) (split_text w words text next others))

-- a byte that is no space, and is in no word, is not in the line of the words
pub without-spaced : (c : ℕ) (words : List (List ℕ)) → (32 == c) ≡ false → AllByRecursion (Without c) words → Without c (spaced words)
without-spaced c [] other none = refl
without-spaced c (w ∷ words) other (first, others) =
    let own : Without c (spaced_word w) = ap (λ b. b || list_any (λ b. b == c) w) other ∙ first in
    without-append c (spaced_word w) (spaced words) own (without-spaced c words other others)
