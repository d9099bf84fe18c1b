-- The words of a text, whatever the case of letters.
use Rattle.finding.proofs.PatternPrelude.{◌≡◌, ℕ, ◌+◌, ◌<◌, ◌≤◌, List, [], ◌∷◌, ◌++◌, length, take, drop, refl, ap, sym, ◌∙◌, subst, arith, length-append, str_to_ascii_lowercase, to_ascii_lowercase, drop-append_seam, take-append_seam, take-append-drop, length-map, length-take, Name, words_after, HasWord, HasWords}

-- the text from an index on begins with the word
abbrev pub IsAlikeAt : List ℕ → Name → ℕ → Type 0
IsAlikeAt text w k = str_to_ascii_lowercase (take (length w) (drop k text)) ≡ str_to_ascii_lowercase w

-- the text from an index on, given as an equal text
pub alike_at : (text : List ℕ) (w : Name) (k : ℕ) (rest : List ℕ) → rest ≡ drop k text → IsAlikeAt text w k → str_to_ascii_lowercase (take (length w) rest) ≡ str_to_ascii_lowercase w
alike_at text w k rest same alike = ap (λ r. str_to_ascii_lowercase (take (length w) r)) same ∙ alike

pub alike_back : (text : List ℕ) (w : Name) (k : ℕ) (rest : List ℕ) → rest ≡ drop k text → str_to_ascii_lowercase (take (length w) rest) ≡ str_to_ascii_lowercase w → IsAlikeAt text w k
alike_back text w k rest same alike = ap (λ r. str_to_ascii_lowercase (take (length w) r)) (sym same) ∙ alike

-- a text shorter than the word does not begin with it
pub too_short : (text : List ℕ) (w : Name) → length text < length w → str_to_ascii_lowercase (take (length w) text) ≡ str_to_ascii_lowercase w → ⊥
too_short text w short alike =
    let count : length (take (length w) text) ≡ length w = sym (length-map (take (length w) text) to_ascii_lowercase) ∙ (ap length alike ∙ length-map w to_ascii_lowercase) in
    omega (arith, count, short, length-take (length w) text)

-- a text has a word if it begins with the word at an index ..
pub word_at : (text : List ℕ) (w : Name) (k : ℕ) → IsAlikeAt text w k → HasWord text w
word_at text w k alike =
    let rest : List ℕ = drop k text in
    record {
      before = take k text;
      slice = take (length w) rest;
      after = drop (length w) rest;
      whole = sym (take-append-drop k text) ∙ ap (λ r. take k text ++ r) (sym (take-append-drop (length w) rest));
      same = alike;
    }

-- .. and if it has the word, it begins with it at an index
pub index_of_word : (text : List ℕ) (w : Name) (h : HasWord text w) → (length h.before + length w ≤ length text) × IsAlikeAt text w (length h.before)
index_of_word text w h =
    let count : length h.slice ≡ length w = sym (length-map h.slice to_ascii_lowercase) ∙ (ap length h.same ∙ length-map w to_ascii_lowercase) in
    let tail : drop (length h.before) text ≡ h.slice ++ h.after = ap (drop (length h.before)) h.whole ∙ drop-append_seam h.before (h.slice ++ h.after) in
    let front : take (length w) (drop (length h.before) text) ≡ h.slice = ap (λ n. take n (drop (length h.before) text)) (sym count) ∙ (ap (take (length h.slice)) tail ∙ take-append_seam h.slice h.after) in
    let whole : length text ≡ length (h.before ++ (h.slice ++ h.after)) = ap length h.whole in
    (omega (arith, whole, count, length-append h.before (h.slice ++ h.after), length-append h.slice h.after), ap str_to_ascii_lowercase front ∙ h.same)

-- each text has the empty word
pub empty_word : (text : List ℕ) (w : Name) → length w ≡ 0 → HasWord text w
empty_word text [] none = record { before = []; slice = []; after = text; whole = refl; same = refl }
empty_word text (x ∷ w) none = absurd (omega (arith, none))

-- a text that begins with the word at no index does not have it
pub no_word : (text : List ℕ) (w : Name) → ((k : ℕ) → k + length w ≤ length text → IsAlikeAt text w k → ⊥) → HasWord text w → ⊥
no_word text w none h = let at = index_of_word text w h in none (length h.before) at.0 at.1

-- the text has all words exactly if it has those from an index on, ..
pub record AreAllIf (text query : List ℕ) (at : ℕ) : Type 0 where
  pub all : HasWords text (words_after query at) → HasWords text (words_after query 0)
  pub each : HasWords text (words_after query 0) → HasWords text (words_after query at)

pub all_none : (text query : List ℕ) → AreAllIf text query 0
all_none text query = record { all = λ h. h; each = λ h. h }

module _ (text query : List ℕ) (at end : ℕ) (w : Name) (e : words_after query at ≡ w ∷ words_after query end) (is : AreAllIf text query at) where
  -- .. also if it has the next word, ..
  pub all_on : HasWord text w → AreAllIf text query end
  all_on has = record {
    all = λ rest. is.all (subst (HasWords text) (sym e) (has, rest));
    each = λ all. (subst (HasWords text) e (is.each all)).1;
  }

  -- .. but it does not have all words if it lacks the next one
  pub not_all : (HasWord text w → ⊥) → HasWords text (words_after query 0) → ⊥
  not_all lacks all = lacks (subst (HasWords text) e (is.each all)).0

-- at the end of the query the text has all words
pub all_end : (text query : List ℕ) (at : ℕ) → AreAllIf text query at → words_after query at ≡ [] → HasWords text (words_after query 0)
all_end text query at is none = is.all (subst (HasWords text) (sym none) tt)
