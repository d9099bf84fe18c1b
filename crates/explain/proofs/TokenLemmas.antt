-- Tokens that write no items.
use Rattle.explain.proofs.Words.{◌≡◌, ℕ, ◌+◌, Bool, true, false, not, bytes_eq, ◌||◌, List, [], ◌∷◌, ◌++◌, length, map, refl, list_all, list_any, sym, ◌∙◌, ap, subst, arith, append_assoc, append-nil, length-append, inl, inr, true≢false, list_any-append, bytes_eq-Decides, or_parts, not-false, and_from, or_from, not-true, Name, has_name, is_label, Item, Cite, is_unfinished, is_compressed, left_parenthesis, right_parenthesis, Writes, WritesRow, LetterBreak, has_fault, joined, IsFirst, IsLetterBreak, EndsListedLabels, IsNotLabel, AreLettersBroken}
use Rattle.explain.specs.declared.broken_code.TokenFault.TheVariants as token_fault

-- ---- the first word that fails a test

module _ (t : Name → Bool) where
  pub record IsPassed (words left : List Name) (index : ℕ) : Type 0 where
    pub front : List Name
    pub whole : words ≡ front ++ left
    pub index_is : length front ≡ index
    pub before : list_any t front ≡ false

  pub none-passed : (words : List Name) → IsPassed words words 0
  none-passed words = record { front = []; whole = refl; index_is = refl; before = refl }

  module _ (words left : List Name) (index : ℕ) (p : IsPassed words left index) (word : Name) (rest : List Name) (e : left ≡ word ∷ rest) where
    pub passed-more : t word ≡ false → IsPassed words rest (index + 1)
    passed-more h = record {
      front = p.front ++ word ∷ [];
      whole = p.whole ∙ (ap (λ l. p.front ++ l) e ∙ sym (append_assoc p.front (word ∷ []) rest));
      index_is = let l = length-append p.front (word ∷ []) in let q = p.index_is in omega (arith, l, q);
      before = list_any-append t p.front (word ∷ []) ∙ (ap (λ b. b || (t word || false)) p.before ∙ ap (λ b. b || false) h);
    }

    pub first-here : t word ≡ true → IsFirst t words index word rest
    first-here h = record { front = p.front; whole = p.whole ∙ ap (λ l. p.front ++ l) e; index_is = p.index_is; before = p.before; here = h }

    -- the words before this one, this one and the rest are as many as all words
    pub room : index + 1 + length rest ≡ length words
    room = let l = length-append p.front left in let q = p.index_is in let a = ap length e in let w = ap length p.whole in omega (arith, l, q, a, w)

  pub all-passed : (words left : List Name) (index : ℕ) → IsPassed words left index → left ≡ [] → list_any t words ≡ false
  all-passed words left index p e = ap (list_any t) (p.whole ∙ (ap (λ l. p.front ++ l) e ∙ append-nil p.front)) ∙ p.before

-- ---- the tokens that pass

all-labels : (mandatory words : List Name) → list_any (has_fault mandatory token_fault.NotLabel) words ≡ false → list_all is_label words ≡ true
all-labels mandatory [] h = refl
all-labels mandatory (w ∷ words) h =
    let p = or_parts (not (is_label w)) (list_any (has_fault mandatory token_fault.NotLabel) words) h in
    and_from (is_label w) (list_all is_label words) (not-false (is_label w) p.0) (all-labels mandatory words p.1)

listed-labels : (mandatory words : List Name) → list_any (has_fault mandatory token_fault.NotListable) words ≡ false
    → (list_all is_label words ≡ true) × (list_any (λ label. has_name label mandatory) words ≡ false)
listed-labels mandatory [] h = (refl, refl)
listed-labels mandatory (w ∷ words) h =
    let p = or_parts (not (is_label w) || has_name w mandatory) (list_any (has_fault mandatory token_fault.NotListable) words) h in
    let q = or_parts (not (is_label w)) (has_name w mandatory) p.0 in
    let more = listed-labels mandatory words p.1 in
    (and_from (is_label w) (list_all is_label words) (not-false (is_label w) q.0) more.0, or_from (has_name w mandatory) (list_any (λ label. has_name label mandatory) words) q.1 more.1)

-- ---- tokens that write

-- if no token has the byte `?`, the proof is not unfinished
pub finished : (mandatory tokens : List Name) → list_any (has_fault mandatory token_fault.Unfinished) tokens ≡ false → is_unfinished tokens ≡ false
finished mandatory tokens h = h

pub writes-normal : (tokens mandatory : List Name) → is_unfinished tokens ≡ false → is_compressed tokens ≡ false → list_any (has_fault mandatory token_fault.NotLabel) tokens ≡ false
    → Writes tokens mandatory (map (λ token. Cite token) tokens)
writes-normal tokens mandatory f c h = inr (c, (f, record { labels = all-labels mandatory tokens h; cites = refl }))

pub writes-compressed : (tokens mandatory : List Name) (index : ℕ) (rest : List Name) (items : List Item) → is_unfinished tokens ≡ false → is_compressed tokens ≡ true
    → (l : EndsListedLabels tokens mandatory index right_parenthesis rest) → WritesRow (mandatory ++ l.first.front) (joined rest) items → Writes tokens mandatory items
writes-compressed tokens mandatory index rest items f c l row =
    let p = listed-labels mandatory l.first.front l.first.before in
    inl (c, (f, record { listed = l.first.front; rest = rest; whole = l.whole ∙ ap (λ w. left_parenthesis ∷ w) l.first.whole; labels = p.0; none_shared = p.1; letters = row }))

-- ---- the broken rule

pub not-label-normal : (tokens mandatory words : List Name) (token : ℕ) (word : Name) (rest : List Name) → words ≡ tokens → is_compressed tokens ≡ false
    → IsFirst (has_fault mandatory token_fault.NotLabel) words token word rest → IsNotLabel tokens mandatory token
not-label-normal tokens mandatory words token word rest same c f = record {
  word = word;
  rest = rest;
  here = inl (c, subst (λ w. IsFirst (has_fault mandatory token_fault.NotLabel) w token word rest) same f);
  other = not-true (is_label word) f.here;
}

module _ (tokens mandatory words : List Name) (index : ℕ) (word : Name) (rest : List Name) (starts : tokens ≡ left_parenthesis ∷ words) (f : IsFirst (has_fault mandatory token_fault.NotListable) words index word rest) where
  list_end-of : EndsListedLabels tokens mandatory index word rest
  list_end-of = record { words = words; whole = starts; first = f }

  pub not-label-listed : (closing : Name) → closing ≡ right_parenthesis → bytes_eq word closing ≡ false → is_label word ≡ false → IsNotLabel tokens mandatory (index + 1)
  not-label-listed closing is other none = record {
    word = word;
    rest = rest;
    here = inr (index, refl, list_end-of, λ same. true≢false (sym ((bytes_eq-Decides word closing).1 (same ∙ sym is)) ∙ other));
    other = none;
  }

  pub right_parenthesis-listing : (closing : Name) → closing ≡ right_parenthesis → bytes_eq word closing ≡ true → EndsListedLabels tokens mandatory index right_parenthesis rest
  right_parenthesis-listing closing is same = subst (λ w. EndsListedLabels tokens mandatory index w rest) ((bytes_eq-Decides word closing).0 same ∙ is) list_end-of

module _ (tokens mandatory : List Name) (index : ℕ) (rest : List Name) (l : EndsListedLabels tokens mandatory index right_parenthesis rest) (many : ℕ) (all : many ≡ length mandatory) (letters : List ℕ) (text : letters ≡ joined rest) where
  -- there are as many labels as mandatory ones and ones listed before `)`
  count : length (mandatory ++ l.first.front) ≡ many + index
  count = let a = length-append mandatory l.first.front in let p = l.first.index_is in omega (arith, a, p, all)

  pub letters-broken : (broken : LetterBreak) → ((names : List Name) → length names ≡ many + index → IsLetterBreak names letters broken) → AreLettersBroken tokens mandatory broken
  letters-broken broken fact = record {
    index = index;
    rest = rest;
    list_end = l;
    letters = subst (λ letters. IsLetterBreak (mandatory ++ l.first.front) letters broken) text (fact (mandatory ++ l.first.front) count);
  }

  pub letters-write : is_unfinished tokens ≡ false → is_compressed tokens ≡ true → ((names : List Name) → length names ≡ many + index → (items : List Item) × WritesRow names letters items)
      → (items : List Item) × Writes tokens mandatory items
  letters-write f c fact =
      let w = fact (mandatory ++ l.first.front) count in
      (w.0, writes-compressed tokens mandatory index rest w.0 f c l (subst (λ letters. WritesRow (mandatory ++ l.first.front) letters w.0) text w.1))
