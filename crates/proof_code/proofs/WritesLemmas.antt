-- Reading from left to right gives the items that the tokens write.
use Rattle.proof_code.proofs.Words.{◌≡◌, ℕ, true, false, List, [], ◌∷◌, ◌++◌, Option, Some, None, MatchOption, refl, list_all, option_map, sym, ◌∙◌, ap, true≢false, inl, inr, none-some, same_Some, bytes_eq-Decides, and_from, and_parts, cases_Bool, false_from_ne_true, Name, name_eq, is_label, spaced, is_word, Item, share_label, ListAndRest, with_label, list_and_rest, starts_with_mark, left_parenthesis, right_parenthesis, is_compressed, WritesRow, WritesCompressed, Bor}
use Rattle.proof_code.proofs.RowOfNumbers.{joined}

-- ---- the header

-- the parts of the header are those of the definition
pub record IsHeader (tokens : List Name) (header : ListAndRest) : Type 0 where
  pub whole : tokens ≡ header.listed ++ right_parenthesis ∷ header.rest
  pub labels : list_all is_label header.listed ≡ true

-- a header with a label in front comes from a header without it
some_header : (o : Option ListAndRest) (label : Name) (header : ListAndRest) → option_map (with_label label) o ≡ Some header → (more : ListAndRest) × (o ≡ Some more) × (with_label label more ≡ header)
some_header None label header h = absurd (none-some header h)
some_header (Some more) label header h = (more, refl, same_Some (with_label label more) header h)

-- a header that is read has the parts of the definition
pub header-read : (tokens : List Name) (header : ListAndRest) → list_and_rest tokens ≡ Some header → IsHeader tokens header
header-read [] header h = absurd (none-some header h)
header-read (token ∷ tokens) header h = elim (cases_Bool (name_eq token right_parenthesis)) [
  | inl e ↦ rw (← same_Some (record { listed = []; rest = tokens }) header (rw e at h)) (record { whole = ap (λ t. t ∷ tokens) ((bytes_eq-Decides token right_parenthesis).0 e); labels = refl })
  | inr e ↦ elim (cases_Bool (is_label token)) [
    | inl is ↦
        let got : (more : ListAndRest) × (list_and_rest tokens ≡ Some more) × (with_label token more ≡ header) = some_header (list_and_rest tokens) token header (rw (e, is) at h) in
        let more : IsHeader tokens got.0 = header-read tokens got.0 got.1 in
        rw (← got.2) (record { whole = ap (λ ts. token ∷ ts) more.whole; labels = and_from (is_label token) (list_all is_label got.0.listed) is more.labels })
    | inr is ↦ absurd (none-some header (rw (e, is) at h))
  ]
]

-- a header that is there is read
pub read-header : (listed rest : List Name) → list_all is_label listed ≡ true → list_and_rest (listed ++ right_parenthesis ∷ rest) ≡ Some (record { listed = listed; rest = rest })
read-header [] rest labels = refl
read-header (label ∷ listed) rest labels =
    let is : (is_label label ≡ true) × (list_all is_label listed ≡ true) = and_parts (is_label label) (list_all is_label listed) labels in
    let goes_on : name_eq label right_parenthesis ≡ false = false_from_ne_true (name_eq label right_parenthesis) (λ e. true≢false (sym is.0 ∙ ap is_label ((bytes_eq-Decides label right_parenthesis).0 e))) in
    rw (goes_on, is.0) (ap (option_map (with_label label)) (read-header listed rest is.1))

-- ---- the whole proof

-- the first token of a compressed proof, taken off, is `(`
pub begins : (iter tokens before : List Name) (r : Option (Bor (List ℕ))) → MatchOption r ((iter ≡ []) × (before ≡ [])) (λ x. iter ≡ x.now ∷ before) → iter ≡ tokens → is_compressed tokens ≡ true → tokens ≡ left_parenthesis ∷ before
begins iter tokens before None steps is compressed = absurd (true≢false (sym compressed ∙ ap is_compressed (sym is ∙ steps.0)))
begins iter tokens before (Some x) steps is compressed =
    let first : tokens ≡ x.now ∷ before = sym is ∙ steps in
    first ∙ ap (λ t. t ∷ before) ((bytes_eq-Decides x.now left_parenthesis).0 (sym (ap is_compressed first) ∙ compressed))

-- the text of words begins with a mark exactly if the joined words do
pub starts_with_mark-spaced : (words : List Name) → list_all is_word words ≡ true → starts_with_mark (spaced words) ≡ starts_with_mark (joined words)
starts_with_mark-spaced [] h = refl
starts_with_mark-spaced ([] ∷ words) h = absurd (true≢false (sym h))
starts_with_mark-spaced ((b ∷ word) ∷ []) h = refl
starts_with_mark-spaced ((b ∷ word) ∷ next ∷ words) h = refl

module _ (tokens before : List Name) (starts : tokens ≡ left_parenthesis ∷ before) where
  -- tokens that write items have the header that is read
  header-is : (labels : List Name) (items : List Item) (w : WritesCompressed tokens labels items) → list_and_rest before ≡ Some (record { listed = w.listed; rest = w.rest })
  header-is labels items w =
      let same : before ≡ w.listed ++ right_parenthesis ∷ w.rest = cc (starts, w.whole) in
      ap list_and_rest same ∙ read-header w.listed w.rest w.labels

  -- tokens without a header write nothing
  pub without_header : list_and_rest before ≡ None → (labels : List Name) (items : List Item) → WritesCompressed tokens labels items → ⊥
  without_header none labels items w = none-some (record { listed = w.listed; rest = w.rest }) (sym none ∙ header-is labels items w)

  module _ (header : ListAndRest) (read : list_and_rest before ≡ Some header) where
    -- after the header a row is written, and the header lists no mandatory label
    pub row_after : (labels : List Name) (items : List Item) → WritesCompressed tokens labels items → (share_label labels header.listed ≡ false) × WritesRow (labels ++ header.listed) (joined header.rest) items
    row_after labels items w =
        rw (← same_Some (record { listed = w.listed; rest = w.rest }) header (sym (header-is labels items w) ∙ read)) (w.none_shared, w.letters)

    -- if such a row is written after the header, the whole proof writes its items
    pub written_after : (labels : List Name) (items : List Item) → share_label labels header.listed ≡ false → WritesRow (labels ++ header.listed) (joined header.rest) items → WritesCompressed tokens labels items
    written_after labels items apart row =
        let is : IsHeader before header = header-read before header read in
        record {
          listed = header.listed;
          rest = header.rest;
          whole = starts ∙ ap (λ ts. left_parenthesis ∷ ts) is.whole;
          labels = is.labels;
          none_shared = apart;
          letters = row;
        }
