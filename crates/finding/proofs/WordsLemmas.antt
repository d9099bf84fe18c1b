-- The words of an argument, read one after another.
use Rattle.finding.proofs.PatternPrelude.{◌≡◌, ℕ, Bool, true, false, List, [], ◌∷◌, ◌++◌, Some, refl, map, ap, sym, ◌∙◌, append_assoc, append-nil, map-append, find, list_any, Name, Part, part_of, part_view, words_in, words_after}
use Rattle.finding.specs.Matches as m

module _ (p : Name → Bool) (ws : List Name) (w : Name) (rest : List Name) (e : ws ≡ w ∷ rest) where
  -- a word that passes the test is found, ..
  pub find_here : p w ≡ true → find p ws ≡ Some w
  find_here passes = ap (find p) e ∙ rw passes refl

  -- .. and one that does not is passed over
  pub find_on : p w ≡ false → find p ws ≡ find p rest
  find_on fails = ap (find p) e ∙ rw fails refl

  pub any_here : p w ≡ true → list_any p ws ≡ true
  any_here passes = ap (list_any p) e ∙ rw passes refl

  pub any_on : p w ≡ false → list_any p ws ≡ list_any p rest
  any_on fails = ap (list_any p) e ∙ rw fails refl

-- the parts are those of the words before an index
abbrev pub AreBefore : List ℕ → ℕ → List Part → Type 0
AreBefore text at parts = map part_view parts ++ map part_of (words_after text at) ≡ map part_of (words_in text)

-- at the beginning there are no parts
pub before_none : (text : List ℕ) (parts : List Part) → parts ≡ [] → AreBefore text 0 parts
before_none text parts none = ap (λ p. map part_view p ++ map part_of (words_after text 0)) none

module _ (text : List ℕ) (at end : ℕ) (w : Name) (e : words_after text at ≡ w ∷ words_after text end) where
  -- one more word, and its part
  pub before_on : (parts new : List Part) (q : Part) → AreBefore text at parts → part_view q ≡ part_of w → new ≡ parts ++ (q ∷ []) → AreBefore text end new
  before_on parts new q is same whole =
      let rest : List m.Part = map part_of (words_after text end) in
      let longer : map part_view new ≡ map part_view parts ++ (part_view q ∷ []) = ap (map part_view) whole ∙ map-append part_view parts (q ∷ []) in
      let first : part_view q ∷ rest ≡ map part_of (words_after text at) = ap (λ v. v ∷ rest) same ∙ sym (ap (map part_of) e) in
      ap (λ v. v ++ rest) longer ∙ (append_assoc (map part_view parts) (part_view q ∷ []) rest ∙ (ap (λ v. map part_view parts ++ v) first ∙ is))

-- at the end the parts are those of all words
pub before_all : (text : List ℕ) (at : ℕ) (parts : List Part) → AreBefore text at parts → words_after text at ≡ [] → map part_view parts ≡ map part_of (words_in text)
before_all text at parts is none =
    sym (append-nil (map part_view parts)) ∙ (ap (λ ws. map part_view parts ++ map part_of ws) (sym none) ∙ is)
