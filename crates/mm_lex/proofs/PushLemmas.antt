-- Words that are appended to a buffer.
use Rattle.mm_lex.proofs.Prelude.{◌≡◌, ℕ, true, false, cond, ◌==◌, List, [], ◌∷◌, ◌++◌, length, ◌<◌, Result, Ok, Err, is_ok, is_err, OnOk, refl, list_all, ◌∙◌, ap, arith, append_assoc, list_all-append, Name, words_of, is_word}
use Rattle.mm_lex.proofs.WordsLemmas.{slice_split-space, some_by_len}

-- the words of two texts with a space between them are those of the first and then those of the
-- second
words_of-both : (a b : ℕ) (text more : List ℕ) → words_of ((a ∷ text) ++ 32 ∷ b ∷ more) ≡ words_of (a ∷ text) ++ words_of (b ∷ more)
words_of-both a b text more = slice_split-space (a ∷ text) (b ∷ more)

AreWords-both : (ws vs : List Name) → list_all is_word ws ≡ true → list_all is_word vs ≡ true → list_all is_word (ws ++ vs) ≡ true
AreWords-both ws vs h k = list_all-append is_word ws vs ∙ rw (h, k) refl

-- the words of the new text are those of the two others in turn, and each can be a token if this
-- holds in both
abbrev Next : List ℕ → List ℕ → List ℕ → Type 0
Next text more new = (words_of new ≡ words_of text ++ words_of more) × (list_all is_word (words_of text) ≡ true → list_all is_word (words_of more) ≡ true → list_all is_word (words_of new) ≡ true)

-- if the words of the new text are those of the two others in turn, each can be a token if this
-- holds in both
next : (text more new : List ℕ) → words_of new ≡ words_of text ++ words_of more → Next text more new
next text more new e = (e, λ h k. ap (list_all is_word) e ∙ AreWords-both (words_of text) (words_of more) h k)

next-more : (text more new : List ℕ) → 0 < length text → 0 < length more → new ≡ text ++ 32 ∷ [] ++ more → Next text more new
next-more [] more new some others e = absurd (no some)
  where
    no : 0 < 0 → ⊥
    no k = omega (arith, k)
next-more (a ∷ text) [] new some others e = absurd (no others)
  where
    no : 0 < 0 → ⊥
    no k = omega (arith, k)
next-more (a ∷ text) (b ∷ more) new some others e = next (a ∷ text) (b ∷ more) new (ap words_of (e ∙ append_assoc (a ∷ text) (32 ∷ []) (b ∷ more)) ∙ words_of-both a b text more)

module _ {A E : Type 0} (text more new : List ℕ) (len : ℕ) (long : len ≡ length text) where
  pub more-ok : (r : Result A E) (mid : List ℕ) → false ≡ (len == 0) → false ≡ (length more == 0) → mid ≡ text ++ 32 ∷ [] → new ≡ cond (is_ok r) (mid ++ more) mid → false ≡ is_err r → OnOk r (words_of new ≡ words_of text ++ words_of more)
  more-ok (Ok x) mid h others m e o = (next-more text more new (some_by_len text len long h) (some_by_len more (length more) refl others) (e ∙ ap (λ t. t ++ more) m)).0
  more-ok (Err x) mid h others m e o = tt

  pub more-words : (r : Result A E) (mid : List ℕ) → list_all is_word (words_of text) ≡ true → list_all is_word (words_of more) ≡ true → false ≡ (len == 0) → false ≡ (length more == 0) → mid ≡ text ++ 32 ∷ [] → new ≡ cond (is_ok r) (mid ++ more) mid → false ≡ is_err r → list_all is_word (words_of new) ≡ true
  more-words (Ok x) mid k w h others m e o = (next-more text more new (some_by_len text len long h) (some_by_len more (length more) refl others) (e ∙ ap (λ t. t ++ more) m)).1 k w
  more-words (Err x) mid k w h others m e o = cc
