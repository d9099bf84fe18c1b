-- The entry of a name gives its kind and its number.
use Rattle.scope.proofs.Words.{◌≡◌, ℕ, ◌-◌, ◌<◌, ◌≤◌, Bool, true, cond, List, [], ◌∷◌, ◌++◌, length, take, Some, slice_get, option_map, refl, ◌∙◌, ap, sym, subst, arith, length-take-le, get_or, slice_get-map, slice_get_read, Name, name_at, code_of, code-name, code-first, added-name, Declared, declared_names, declared_symbols, declared_labels, names_where, names_of_kind, kind_in, zip_kinds, is_symbol_kind, is_label_kind, IsNumberOf, kinds_of, AreCounted, indexes_where, NameKind, Label, Constant, Variable, CountedKind}
use Rattle.scope.proofs.KindsLemmas.{names-seen, kind-at, length-seen}
use Rattle.scope.proofs.KindCountLemmas.{kinds-length, count-at, both-counts, indexes-length, index-at}
use Rattle.scope.proofs.SymbolNameLemmas.{names_where-append, number-at}

module _ (names : List Name) (entries : List CountedKind) (same : length entries ≡ length names) (counted : AreCounted 0 entries) (e : CountedKind) where
  -- the count of an entry is the number of symbols before its index
  pub symbols-earlier_symbols : (n : ℕ) → slice_get entries n ≡ Some e → e.earlier_symbols ≡ length (declared_symbols (take n (zip_kinds names (kinds_of entries))))
  symbols-earlier_symbols n at = let is = count-at names entries 0 n e same counted at in omega (arith, is)

  all-earlier_symbols : (n : ℕ) → n ≤ length names → length (take n (zip_kinds names (kinds_of entries))) ≡ n
  all-earlier_symbols n below =
      let size = length-seen names (kinds_of entries) (kinds-length names entries same) in
      length-take-le n (zip_kinds names (kinds_of entries)) (omega (arith, size, below))

  -- at most n symbols come before the index n, and the other names before it are labels
  pub earlier_symbols-within : (n : ℕ) → n ≤ length names → slice_get entries n ≡ Some e → e.earlier_symbols ≤ n
  earlier_symbols-within n below at =
      let is = symbols-earlier_symbols n at in
      let all = all-earlier_symbols n below in
      let both = both-counts (take n (zip_kinds names (kinds_of entries))) in
      omega (arith, is, all, both)

  pub labels-earlier_symbols : (n : ℕ) → n ≤ length names → slice_get entries n ≡ Some e → n - e.earlier_symbols ≡ length (declared_labels (take n (zip_kinds names (kinds_of entries))))
  labels-earlier_symbols n below at =
      let is = symbols-earlier_symbols n at in
      let all = all-earlier_symbols n below in
      let both = both-counts (take n (zip_kinds names (kinds_of entries))) in
      omega (arith, is, all, both)

  -- the kind of the name at an index
  pub kind-of-entry : (x : Name) (n : ℕ) → code_of names x ≡ Some n → slice_get entries n ≡ Some e → kind_in (zip_kinds names (kinds_of entries)) x ≡ Some e.kind
  kind-of-entry x n code at =
      let p = code-name names x n code in
      kind-at names (kinds_of entries) x n e.kind p.0 p.1 (code-first names x n code) (slice_get-map (λ e. e.kind) entries n ∙ ap (option_map (λ e. e.kind)) at)

  numbered : (own : NameKind → Bool) (x : Name) (n : ℕ) → code_of names x ≡ Some n → slice_get entries n ≡ Some e → own e.kind ≡ true
      → IsNumberOf (names_where own (zip_kinds names (kinds_of entries))) x (length (names_where own (take n (zip_kinds names (kinds_of entries)))))
  numbered own x n code at is =
      let p = code-name names x n code in
      by (declared_names (zip_kinds names (kinds_of entries))) (names-seen names (kinds_of entries) (kinds-length names entries same)) p.0 p.1 (code-first names x n code)
    where
      by : (seen : List Name) → seen ≡ names → n < length names → name_at names n ≡ x → ((m : ℕ) → m < n → name_at names m ≡ x → ⊥)
          → IsNumberOf (names_where own (zip_kinds names (kinds_of entries))) x (length (names_where own (take n (zip_kinds names (kinds_of entries)))))
      by seen are below here first =
          let is_seen = names-seen names (kinds_of entries) (kinds-length names entries same) in
          number-at own (zip_kinds names (kinds_of entries)) x n e.kind (subst (λ (N : List Name). n < length N) (sym is_seen) below) (ap (λ N. name_at N n) is_seen ∙ here)
          (λ m lt q. first m lt (ap (λ N. name_at N m) (sym is_seen) ∙ q)) (kind-of-entry x n code at) is

  -- the number of the name at an index
  pub number-of-entry : (x : Name) (n : ℕ) → code_of names x ≡ Some n → slice_get entries n ≡ Some e
      → IsNumberOf (names_of_kind e.kind (zip_kinds names (kinds_of entries))) x (cond (is_symbol_kind e.kind) e.earlier_symbols (n - e.earlier_symbols))
  number-of-entry x n code at = by e.kind refl (code-name names x n code).0
    where
      within : n < length names → n ≤ length names
      within lt = omega (arith, lt)

      by : (k : NameKind) → e.kind ≡ k → n < length names → IsNumberOf (names_of_kind k (zip_kinds names (kinds_of entries))) x (cond (is_symbol_kind k) e.earlier_symbols (n - e.earlier_symbols))
      by Label q lt = subst (λ (i : ℕ). IsNumberOf (names_where is_label_kind (zip_kinds names (kinds_of entries))) x i) (sym (labels-earlier_symbols n (within lt) at)) (numbered is_label_kind x n code at (ap is_label_kind q))
      by Constant q lt = subst (λ (i : ℕ). IsNumberOf (names_where is_symbol_kind (zip_kinds names (kinds_of entries))) x i) (sym (symbols-earlier_symbols n at)) (numbered is_symbol_kind x n code at (ap is_symbol_kind q))
      by Variable q lt = subst (λ (i : ℕ). IsNumberOf (names_where is_symbol_kind (zip_kinds names (kinds_of entries))) x i) (sym (symbols-earlier_symbols n at)) (numbered is_symbol_kind x n code at (ap is_symbol_kind q))

-- there are as many indexes as names of these kinds
pub indexes-count : (own : NameKind → Bool) (names : List Name) (entries : List CountedKind) (indexes : List ℕ) (seen : Declared) → length entries ≡ length names → indexes ≡ indexes_where own 0 entries → zip_kinds names (kinds_of entries) ≡ seen
    → length indexes ≡ length (names_where own seen)
indexes-count own names entries indexes seen same are view = ap length are ∙ (indexes-length own 0 names entries same ∙ ap (λ N. length (names_where own N)) view)

-- the name of a number is the name at its index
pub name-of-number : (own : NameKind → Bool) (names : List Name) (entries : List CountedKind) (indexes : List ℕ) (seen : Declared) (n p : ℕ) → length entries ≡ length names → indexes ≡ indexes_where own 0 entries → zip_kinds names (kinds_of entries) ≡ seen
    → n < length (names_where own seen) → p ≡ get_or indexes n p → (p < length names) × (name_at names p ≡ name_at (names_where own seen) n)
name-of-number own names entries indexes seen n p same are view below at =
    let count = indexes-count own names entries indexes seen same are view in
    let is = index-at own 0 names entries n p same (ap (λ ps. slice_get ps n) (sym are) ∙ slice_get_read indexes (length indexes) n p refl (omega (arith, below, count)) at) in
    let here = is.1 in let lt = is.2 in
    let plain : p ≡ is.0 = omega (arith, here) in
    (omega (arith, here, lt), ap (name_at names) plain ∙ (is.3 ∙ ap (λ N. name_at (names_where own N) n) view))

-- the number of a name that is declared last
pub new-number : (names : Declared) (x : Name) (k : NameKind) (index earlier_symbols : ℕ) → earlier_symbols ≡ length (declared_symbols names) → index ≡ length names
    → IsNumberOf (names_of_kind k (names ++ (x, k) ∷ [])) x (cond (is_symbol_kind k) earlier_symbols (index - earlier_symbols))
new-number names x k index earlier_symbols symbols all = by k
  where
    labels : index - earlier_symbols ≡ length (declared_labels names)
    labels = let both = both-counts names in omega (arith, symbols, all, both)

    by : (k : NameKind) → IsNumberOf (names_of_kind k (names ++ (x, k) ∷ [])) x (cond (is_symbol_kind k) earlier_symbols (index - earlier_symbols))
    by Label = added-name (declared_labels names) (declared_labels (names ++ (x, Label) ∷ [])) x (index - earlier_symbols) labels (names_where-append is_label_kind names ((x, Label) ∷ []))
    by Constant = added-name (declared_symbols names) (declared_symbols (names ++ (x, Constant) ∷ [])) x earlier_symbols symbols (names_where-append is_symbol_kind names ((x, Constant) ∷ []))
    by Variable = added-name (declared_symbols names) (declared_symbols (names ++ (x, Variable) ∷ [])) x earlier_symbols symbols (names_where-append is_symbol_kind names ((x, Variable) ∷ []))
