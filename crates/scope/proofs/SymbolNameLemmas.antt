-- The names that are no labels are the declared symbols.
use Rattle.scope.proofs.Words.{◌≡◌, ℕ, zero, suc, ◌<◌, Bool, true, false, cond, ◌||◌, ◌&&◌, nat_lt, List, [], ◌∷◌, ◌++◌, length, take, Option, Some, None, is_some, refl, list_all, ◌∙◌, ap, sym, arith, true≢false, length-append, append-nil, map-append, list_all-append, or_right, lt-ltb, ltb-true, and_parts, same_Some, Name, name_eq, has_name, Expr, name_at, decode, with_name, with_names, AreCodes, Declared, declared_names, names_where, declared_symbols, declared_labels, kind_in, with_kind, with_kinds, is_some_label, is_symbol_kind, is_label_kind, IsNumberOf, AreRecorded, IsAppended, NameKind, Label, Constant, Variable, name_same, same_name, name_at-more}
use Rattle.scope.proofs.NamesLemmas.{or_kind, kind_in-with_kinds}

-- ---- the names that are no labels, and the labels

pub names_where-append : (own : NameKind → Bool) (names more : Declared) → names_where own (names ++ more) ≡ names_where own names ++ names_where own more
names_where-append own [] more = refl
names_where-append own (p ∷ names) more = by (own p.1) (names_where-append own names more)
  where
    by : (b : Bool) → names_where own (names ++ more) ≡ names_where own names ++ names_where own more
        → cond b (p.0 ∷ names_where own (names ++ more)) (names_where own (names ++ more)) ≡ cond b (p.0 ∷ names_where own names) (names_where own names) ++ names_where own more
    by true e = ap (λ r. p.0 ∷ r) e
    by false e = e

-- a label adds no symbol
pub declared_symbols-label : (names : Declared) (l : Name) → declared_symbols (with_kind names Label l) ≡ declared_symbols names
declared_symbols-label names l = by (is_some (kind_in names l))
  where
    by : (b : Bool) → declared_symbols (cond b names (names ++ (l, Label) ∷ [])) ≡ declared_symbols names
    by true = refl
    by false = names_where-append is_symbol_kind names ((l, Label) ∷ []) ∙ append-nil (declared_symbols names)

-- the kind of a symbol is not that of a label
no_label : (kind : NameKind) → is_symbol_kind kind ≡ true → is_label_kind kind ≡ false
no_label Label e = cc
no_label Constant e = refl
no_label Variable e = refl

declared_labels-symbol : (names : Declared) (kind : NameKind) (x : Name) → is_symbol_kind kind ≡ true → declared_labels (with_kind names kind x) ≡ declared_labels names
declared_labels-symbol names kind x own = by (is_some (kind_in names x))
  where
    by : (b : Bool) → declared_labels (cond b names (names ++ (x, kind) ∷ [])) ≡ declared_labels names
    by true = refl
    by false = names_where-append is_label_kind names ((x, kind) ∷ []) ∙ (ap (λ b. declared_labels names ++ cond b (x ∷ []) []) (no_label kind own) ∙ append-nil (declared_labels names))

pub declared_labels-with_kinds : (names : Declared) (kind : NameKind) (xs : List Name) → is_symbol_kind kind ≡ true → declared_labels (with_kinds names kind xs) ≡ declared_labels names
declared_labels-with_kinds names kind [] own = refl
declared_labels-with_kinds names kind (x ∷ xs) own = declared_labels-with_kinds (with_kind names kind x) kind xs own ∙ declared_labels-symbol names kind x own

-- a new label comes last
pub declared_labels-label : (names : Declared) (l : Name) → kind_in names l ≡ None → declared_labels (with_kind names Label l) ≡ declared_labels names ++ l ∷ []
declared_labels-label names l new = ap (λ k. declared_labels (cond (is_some k) names (names ++ (l, Label) ∷ []))) new ∙ names_where-append is_label_kind names ((l, Label) ∷ [])

-- a name that is no label is among the symbols exactly if it has a kind
has-symbol : (names : Declared) (x : Name) (k : Option NameKind) → kind_in names x ≡ k → is_some_label k ≡ false → has_name x (declared_symbols names) ≡ is_some k
has-symbol [] x None e h = refl
has-symbol [] x (Some k) e h = cc
has-symbol (p ∷ names) x k e h = by (name_eq x p.0) p.1 refl e (has-symbol names x k)
  where
    clash : (k : Option NameKind) → Some Label ≡ k → is_some_label k ≡ false → ⊥
    clash k e h = true≢false (ap is_some_label e ∙ h)

    by : (b : Bool) (own : NameKind) → name_eq x p.0 ≡ b → cond b (Some own) (kind_in names x) ≡ k → (kind_in names x ≡ k → is_some_label k ≡ false → has_name x (declared_symbols names) ≡ is_some k)
        → has_name x (cond (is_symbol_kind own) (p.0 ∷ declared_symbols names) (declared_symbols names)) ≡ is_some k
    by true Label q e rest = absurd (clash k e h)
    by true Constant q e rest = ap (λ b. b || has_name x (declared_symbols names)) q ∙ ap is_some e
    by true Variable q e rest = ap (λ b. b || has_name x (declared_symbols names)) q ∙ ap is_some e
    by false Label q e rest = rest e h
    by false Constant q e rest = ap (λ b. b || has_name x (declared_symbols names)) q ∙ rest e h
    by false Variable q e rest = ap (λ b. b || has_name x (declared_symbols names)) q ∙ rest e h

declared_symbols-with_kind : (names : Declared) (kind : NameKind) (x : Name) → is_symbol_kind kind ≡ true → is_some_label (kind_in names x) ≡ false → declared_symbols (with_kind names kind x) ≡ with_name (declared_symbols names) x
declared_symbols-with_kind names kind x own free =
    by (is_some (kind_in names x)) ∙ ap (λ b. cond b (declared_symbols names) (declared_symbols names ++ x ∷ [])) (sym (has-symbol names x (kind_in names x) refl free))
  where
    by : (b : Bool) → declared_symbols (cond b names (names ++ (x, kind) ∷ [])) ≡ cond b (declared_symbols names) (declared_symbols names ++ x ∷ [])
    by true = refl
    by false = names_where-append is_symbol_kind names ((x, kind) ∷ []) ∙ ap (λ b. declared_symbols names ++ cond b (x ∷ []) []) own

-- if a name is declared as a symbol, no name becomes a label
pub label_free : (names : Declared) (kind : NameKind) (x y : Name) → is_symbol_kind kind ≡ true → is_some_label (kind_in names y) ≡ false → is_some_label (kind_in (with_kind names kind x) y) ≡ false
label_free names kind x y own free = ap is_some_label (kind_in-with_kinds names y kind (x ∷ [])) ∙ or_free (kind_in names y) (has_name y (x ∷ [])) free
  where
    not_label : (k : NameKind) → is_symbol_kind k ≡ true → is_some_label (Some k) ≡ false
    not_label Label e = cc
    not_label Constant e = refl
    not_label Variable e = refl

    or_free : (k : Option NameKind) (b : Bool) → is_some_label k ≡ false → is_some_label (or_kind k b kind) ≡ false
    or_free (Some k) b h = h
    or_free None true h = not_label kind own
    or_free None false h = refl

pub declared_symbols-with_kinds : (names : Declared) (kind : NameKind) (xs : List Name) → is_symbol_kind kind ≡ true → ((x : Name) → has_name x xs ≡ true → is_some_label (kind_in names x) ≡ false)
    → declared_symbols (with_kinds names kind xs) ≡ with_names (declared_symbols names) xs
declared_symbols-with_kinds names kind [] own free = refl
declared_symbols-with_kinds names kind (x ∷ xs) own free =
    declared_symbols-with_kinds (with_kind names kind x) kind xs own (λ y h. label_free names kind x y own (free y (or_right (name_eq y x) (has_name y xs) h)))
    ∙ ap (λ ns. with_names ns xs) (declared_symbols-with_kind names kind x own (free x (ap (λ b. b || has_name x xs) (name_same x))))

-- ---- the number of a symbol

-- the number of a name among those of some kinds is the count of those before its index
pub number-at : (own : NameKind → Bool) (names : Declared) (x : Name) (n : ℕ) (k : NameKind) → n < length (declared_names names) → name_at (declared_names names) n ≡ x → ((m : ℕ) → m < n → name_at (declared_names names) m ≡ x → ⊥)
    → kind_in names x ≡ Some k → own k ≡ true → IsNumberOf (names_where own names) x (length (names_where own (take n names)))
number-at own [] x n k lt e first h is = absurd (omega (arith, lt))
number-at own (p ∷ names) x zero k lt e first h is =
    by (own p.1) (ap own (same_Some p.1 k (ap (λ b. cond b (Some p.1) (kind_in names x)) (sym (ap (name_eq x) e ∙ name_same x)) ∙ h)) ∙ is)
  where
    by : (b : Bool) → b ≡ true → IsNumberOf (cond b (p.0 ∷ names_where own names) (names_where own names)) x 0
    by true f = (omega arith, e)
    by false f = cc
number-at own (p ∷ names) x (suc n) k lt e first h is =
    by (own p.1) (number-at own names x n k (omega (arith, lt)) e (λ m q. first (suc m) (omega (arith, q))) (ap (λ b. cond b (Some p.1) (kind_in names x)) (sym (other (name_eq x p.0) refl)) ∙ h) is)
  where
    other : (b : Bool) → name_eq x p.0 ≡ b → name_eq x p.0 ≡ false
    other false q = q
    other true q = absurd (first 0 (omega arith) (sym (same_name x p.0 q)))

    by : (b : Bool) → IsNumberOf (names_where own names) x (length (names_where own (take n names)))
        → IsNumberOf (cond b (p.0 ∷ names_where own names) (names_where own names)) x (length (cond b (p.0 ∷ names_where own (take n names)) (names_where own (take n names))))
    by true is = let lt = is.0 in (omega (arith, lt), is.1)
    by false is = is

-- ---- numbers that are recorded

-- one more symbol and its number
pub recorded-more : (symbols : List Name) (xs : Expr) (x : Name) (n : ℕ) (old new : Option (List ℕ)) → IsNumberOf symbols x n → IsAppended n old new → AreRecorded symbols xs old → AreRecorded symbols (xs ++ x ∷ []) new
recorded-more symbols xs x n old None is more recorded = tt
recorded-more symbols xs x n None (Some new) is more recorded = cc
recorded-more symbols xs x n (Some old) (Some new) is more recorded =
    let same : new ≡ old ++ n ∷ [] = same_Some new (old ++ n ∷ []) more in
    let below : nat_lt n (length symbols) ≡ true = lt-ltb n (length symbols) is.0 in (
      ap (list_all (λ m. nat_lt m (length symbols))) same ∙ (list_all-append (λ m. nat_lt m (length symbols)) old (n ∷ []) ∙ (ap (λ b. b && (nat_lt n (length symbols) && true)) recorded.0 ∙ ap (λ b. b && true) below)),
      ap (decode symbols) same ∙ (map-append (name_at symbols) old (n ∷ []) ∙ (ap (λ r. r ++ name_at symbols n ∷ []) recorded.1 ∙ ap (λ y. xs ++ y ∷ []) is.1)),
    )

-- recorded numbers stay right if more symbols are declared
pub recorded-later : (symbols more : List Name) (xs : Expr) (recorded : Option (List ℕ)) → AreRecorded symbols xs recorded → AreRecorded (symbols ++ more) xs recorded
recorded-later symbols more xs None are = tt
recorded-later symbols more xs (Some numbers) are = (codes numbers are.0, same numbers are.0 ∙ are.1)
  where
    within : (n : ℕ) → nat_lt n (length symbols) ≡ true → n < length (symbols ++ more)
    within n h = let below = ltb-true n (length symbols) h in let long = length-append symbols more in omega (arith, below, long)

    codes : (ns : List ℕ) → AreCodes symbols ns → AreCodes (symbols ++ more) ns
    codes [] h = refl
    codes (n ∷ ns) h =
        let p = and_parts (nat_lt n (length symbols)) (list_all (λ m. nat_lt m (length symbols)) ns) h in
        ap (λ b. b && list_all (λ m. nat_lt m (length (symbols ++ more))) ns) (lt-ltb n (length (symbols ++ more)) (within n p.0)) ∙ codes ns p.1

    same : (ns : List ℕ) → AreCodes symbols ns → decode (symbols ++ more) ns ≡ decode symbols ns
    same [] h = refl
    same (n ∷ ns) h =
        let p = and_parts (nat_lt n (length symbols)) (list_all (λ m. nat_lt m (length symbols)) ns) h in
        ap (λ x. x ∷ decode (symbols ++ more) ns) (name_at-more symbols more n (ltb-true n (length symbols) p.0)) ∙ ap (λ r. name_at symbols n ∷ r) (same ns p.1)

-- the recorded numbers are those of the first symbols, and the rest of the symbols is still to come
abbrev pub AreDone : List Name → Expr → Expr → Option (List ℕ) → Type 0
AreDone symbols all rest recorded = (done : Expr) × (done ++ rest ≡ all) × AreRecorded symbols done recorded
