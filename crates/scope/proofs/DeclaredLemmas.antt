-- The names that are declared after one more statement.
use Rattle.scope.proofs.Words.{◌≡◌, ℕ, Bool, true, false, ◌||◌, List, [], ◌∷◌, ◌++◌, Option, Some, None, refl, list_any, ◌∙◌, ap, sym, subst, true≢false, or-false, append-nil, list_any-append, Name, name_eq, has_name, Stmt, Open, Close, Const, Var, Disj, Float, Ess, Axiom, Prove, Database, constants, variables, label_of, has_label, broken_rule, with_names, Declared, kind_in, MatchesKind, MatchesKinds, IsNumberingOf, with_kind, with_kinds, is_some_label, is_some_constant, is_some_variable, symbols_of, symbols_declared_by, symbols_after, symbols_in, prepend_option, labels_of, declared_with, MayDeclare, IsRecordedBy, AreRecorded, NameKind, Label, Constant, Variable, same_name}
use Rattle.scope.proofs.NamesLemmas.{or_kind, kind_in-with_kinds, symbols_of-append, labels_of-append}
use Rattle.scope.proofs.SymbolNameLemmas.{declared_symbols-label, declared_symbols-with_kinds, declared_labels-label, declared_labels-with_kinds}
use Rattle.scope.proofs.AcceptLemmas.{with_kinds-more}
use Rattle.scope.proofs.GoingBackLemmas.{all-has, fresh-none, inactive-free}
use Rattle.scope.proofs.LegalLemmas.{legal-constants, legal-variables, legal-label}

-- ---- the declarations of one more statement

any-append : (p : Stmt → Bool) (S : Database) (s : Stmt) → list_any p (S ++ s ∷ []) ≡ (list_any p S || p s)
any-append p S s = list_any-append p S (s ∷ []) ∙ ap (λ b. list_any p S || b) (or-false (p s))

-- the kind of a name after one more statement, from the name's kind before and what the statement
-- declares
tells-step : (S : Database) (s : Stmt) (x : Name) (k k' : Option NameKind) → MatchesKind S x k
    → (is_some_label k || has_label x (label_of s)) ≡ is_some_label k' → (is_some_constant k || has_name x (constants s)) ≡ is_some_constant k'
    → (is_some_variable k || has_name x (variables s)) ≡ is_some_variable k' → MatchesKind (S ++ s ∷ []) x k'
tells-step S s x k k' t l c v = record {
  label = any-append (λ s. has_label x (label_of s)) S s ∙ (ap (λ b. b || has_label x (label_of s)) t.label ∙ l);
  constant = any-append (λ s. has_name x (constants s)) S s ∙ (ap (λ b. b || has_name x (constants s)) t.constant ∙ c);
  variable = any-append (λ s. has_name x (variables s)) S s ∙ (ap (λ b. b || has_name x (variables s)) t.variable ∙ v);
}

pub tells-nothing : (S : Database) (s : Stmt) (names : Declared) → ((x : Name) → has_label x (label_of s) ≡ false) → constants s ≡ [] → variables s ≡ [] → MatchesKinds S names → MatchesKinds (S ++ s ∷ []) names
tells-nothing S s names l c v kinds_match x =
    tells-step S s x (kind_in names x) (kind_in names x) (kinds_match x)
    (ap (λ b. is_some_label (kind_in names x) || b) (l x) ∙ or-false (is_some_label (kind_in names x)))
    (ap (λ xs. is_some_constant (kind_in names x) || has_name x xs) c ∙ or-false (is_some_constant (kind_in names x)))
    (ap (λ xs. is_some_variable (kind_in names x) || has_name x xs) v ∙ or-false (is_some_variable (kind_in names x)))

pub tells-constants : (S : Database) (names : Declared) (xs : List Name) → ((x : Name) → has_name x xs ≡ true → kind_in names x ≡ None) → MatchesKinds S names → MatchesKinds (S ++ Const xs ∷ []) (with_kinds names Constant xs)
tells-constants S names xs fresh kinds_match x =
    subst (λ (k : Option NameKind). MatchesKind (S ++ Const xs ∷ []) x k) (sym (kind_in-with_kinds names x Constant xs)) (by (kind_in names x) (has_name x xs) refl refl (kinds_match x))
  where
    by : (k : Option NameKind) (b : Bool) → kind_in names x ≡ k → has_name x xs ≡ b → MatchesKind S x k → MatchesKind (S ++ Const xs ∷ []) x (or_kind k b Constant)
    by None true p q t = tells-step S (Const xs) x None (Some Constant) t refl q refl
    by None false p q t = tells-step S (Const xs) x None None t refl q refl
    by (Some k) true p q t = absurd (clash k (sym p ∙ fresh x q))
      where
        clash : (k : NameKind) → Some k ≡ None → ⊥
        clash k e = cc
    by (Some k) false p q t = tells-step S (Const xs) x (Some k) (Some k) t (or-false (is_some_label (Some k))) (ap (λ b. is_some_constant (Some k) || b) q ∙ or-false (is_some_constant (Some k))) (or-false (is_some_variable (Some k)))

pub tells-variables : (S : Database) (names : Declared) (xs : List Name) → ((x : Name) → has_name x xs ≡ true → (is_some_label (kind_in names x) ≡ false) × (is_some_constant (kind_in names x) ≡ false)) → MatchesKinds S names → MatchesKinds (S ++ Var xs ∷ []) (with_kinds names Variable xs)
tells-variables S names xs free kinds_match x =
    subst (λ (k : Option NameKind). MatchesKind (S ++ Var xs ∷ []) x k) (sym (kind_in-with_kinds names x Variable xs)) (by (kind_in names x) (has_name x xs) refl refl (kinds_match x))
  where
    by : (k : Option NameKind) (b : Bool) → kind_in names x ≡ k → has_name x xs ≡ b → MatchesKind S x k → MatchesKind (S ++ Var xs ∷ []) x (or_kind k b Variable)
    by None true p q t = tells-step S (Var xs) x None (Some Variable) t refl refl q
    by None false p q t = tells-step S (Var xs) x None None t refl refl q
    by (Some Label) true p q t = absurd (true≢false (sym (ap is_some_label p) ∙ (free x q).0))
    by (Some Constant) true p q t = absurd (true≢false (sym (ap is_some_constant p) ∙ (free x q).1))
    by (Some Variable) true p q t = tells-step S (Var xs) x (Some Variable) (Some Variable) t refl refl refl
    by (Some k) false p q t = tells-step S (Var xs) x (Some k) (Some k) t (or-false (is_some_label (Some k))) (or-false (is_some_constant (Some k))) (ap (λ b. is_some_variable (Some k) || b) q ∙ or-false (is_some_variable (Some k)))

pub tells-label : (S : Database) (s : Stmt) (names : Declared) (l : Name) → label_of s ≡ Some l → constants s ≡ [] → variables s ≡ [] → kind_in names l ≡ None → MatchesKinds S names → MatchesKinds (S ++ s ∷ []) (with_kinds names Label (l ∷ []))
tells-label S s names l labelled c v fresh kinds_match x =
    subst (λ (k : Option NameKind). MatchesKind (S ++ s ∷ []) x k) (sym (kind_in-with_kinds names x Label (l ∷ [])))
    (by (kind_in names x) (name_eq x l) refl refl (kinds_match x))
  where
    has : has_label x (label_of s) ≡ name_eq x l
    has = ap (has_label x) labelled

    with_c : (k : Option NameKind) → (is_some_constant k || has_name x (constants s)) ≡ is_some_constant k
    with_c k = ap (λ xs. is_some_constant k || has_name x xs) c ∙ or-false (is_some_constant k)

    with_v : (k : Option NameKind) → (is_some_variable k || has_name x (variables s)) ≡ is_some_variable k
    with_v k = ap (λ xs. is_some_variable k || has_name x xs) v ∙ or-false (is_some_variable k)

    clash : (k : NameKind) → Some k ≡ None → ⊥
    clash k e = cc

    by : (k : Option NameKind) (b : Bool) → kind_in names x ≡ k → name_eq x l ≡ b → MatchesKind S x k → MatchesKind (S ++ s ∷ []) x (or_kind k (b || false) Label)
    by None true p q t = tells-step S s x None (Some Label) t (has ∙ q) (with_c None) (with_v None)
    by None false p q t = tells-step S s x None None t (has ∙ q) (with_c None) (with_v None)
    by (Some k) true p q t = absurd (clash k (sym p ∙ (ap (kind_in names) (same_name x l q) ∙ fresh)))
    by (Some k) false p q t = tells-step S s x (Some k) (Some k) t (ap (λ b. is_some_label (Some k) || b) (has ∙ q) ∙ or-false (is_some_label (Some k))) (with_c (Some k)) (with_v (Some k))

-- ---- the numbering after a legal statement

numbering-nothing : (S : Database) (s : Stmt) (names : Declared) → ((x : Name) → has_label x (label_of s) ≡ false) → constants s ≡ [] → variables s ≡ [] → label_of s ≡ None → symbols_declared_by s ≡ [] → IsNumberingOf S names → IsNumberingOf (S ++ s ∷ []) names
numbering-nothing S s names l c v label by k = record {
  kinds_match = tells-nothing S s names l c v k.kinds_match;
  symbols = k.symbols ∙ sym (symbols_of-append S s ∙ ap (with_names (symbols_of S)) by);
  labels = k.labels ∙ sym (labels_of-append S (s ∷ []) ∙ (ap (λ o. labels_of S ++ prepend_option o []) label ∙ append-nil (labels_of S)));
}

-- the symbols of a legal `$c` are new, and those of a legal `$v` are no labels
pub constants-free : (S : Database) (names : Declared) (xs : List Name) → broken_rule S (Const xs) ≡ None → MatchesKinds S names → (x : Name) → has_name x xs ≡ true → kind_in names x ≡ None
constants-free S names xs legal kinds_match x h = fresh-none S names x kinds_match (all-has _ x xs (legal-constants S xs legal).0 h)

pub variables-free : (S : Database) (names : Declared) (xs : List Name) → broken_rule S (Var xs) ≡ None → MatchesKinds S names → (x : Name) → has_name x xs ≡ true → (is_some_label (kind_in names x) ≡ false) × (is_some_constant (kind_in names x) ≡ false)
variables-free S names xs legal kinds_match x h = inactive-free S names x kinds_match (all-has _ x xs (legal-variables S xs legal).0 h)

pub numbering-constants : (S : Database) (names : Declared) (xs : List Name) → broken_rule S (Const xs) ≡ None → IsNumberingOf S names → IsNumberingOf (S ++ Const xs ∷ []) (with_kinds names Constant xs)
numbering-constants S names xs legal k =
    let new = constants-free S names xs legal k.kinds_match in
    record {
      kinds_match = tells-constants S names xs new k.kinds_match;
      symbols = declared_symbols-with_kinds names Constant xs refl (λ x h. ap is_some_label (new x h)) ∙ (ap (λ ns. with_names ns xs) k.symbols ∙ sym (symbols_of-append S (Const xs)));
      labels = declared_labels-with_kinds names Constant xs refl ∙ (k.labels ∙ sym (labels_of-append S (Const xs ∷ []) ∙ append-nil (labels_of S)));
    }

pub numbering-variables : (S : Database) (names : Declared) (xs : List Name) → broken_rule S (Var xs) ≡ None → IsNumberingOf S names → IsNumberingOf (S ++ Var xs ∷ []) (with_kinds names Variable xs)
numbering-variables S names xs legal k =
    let free = variables-free S names xs legal k.kinds_match in
    record {
      kinds_match = tells-variables S names xs free k.kinds_match;
      symbols = declared_symbols-with_kinds names Variable xs refl (λ x h. (free x h).0) ∙ (ap (λ ns. with_names ns xs) k.symbols ∙ sym (symbols_of-append S (Var xs)));
      labels = declared_labels-with_kinds names Variable xs refl ∙ (k.labels ∙ sym (labels_of-append S (Var xs ∷ []) ∙ append-nil (labels_of S)));
    }

-- the label of a legal statement is new
pub label-free : (S : Database) (names : Declared) (s : Stmt) (l : Name) → label_of s ≡ Some l → broken_rule S s ≡ None → MatchesKinds S names → kind_in names l ≡ None
label-free S names s l is legal kinds_match = fresh-none S names l kinds_match (legal-label S s l is legal)

pub numbering-label : (S : Database) (names : Declared) (s : Stmt) (l : Name) → label_of s ≡ Some l → constants s ≡ [] → variables s ≡ [] → symbols_declared_by s ≡ [] → broken_rule S s ≡ None → IsNumberingOf S names → IsNumberingOf (S ++ s ∷ []) (with_kind names Label l)
numbering-label S names s l is c v none legal k =
    let new = label-free S names s l is legal k.kinds_match in
    record {
      kinds_match = tells-label S s names l is c v new k.kinds_match;
      symbols = declared_symbols-label names l ∙ (k.symbols ∙ sym (symbols_of-append S s ∙ ap (with_names (symbols_of S)) none));
      labels = declared_labels-label names l new ∙ (ap (λ ls. ls ++ l ∷ []) k.labels ∙ sym (labels_of-append S (s ∷ []) ∙ ap (λ o. labels_of S ++ prepend_option o []) is));
    }

-- ---- by the shape of the statement

pub may-declare : (S : Database) (s : Stmt) (names : Declared) → broken_rule S s ≡ None → MatchesKinds S names → MayDeclare names s
may-declare S (Const xs) names legal kinds_match = λ x h. ap is_some_label (constants-free S names xs legal kinds_match x h)
may-declare S (Var xs) names legal kinds_match = λ x h. (variables-free S names xs legal kinds_match x h).0
may-declare S (Float label constant variable) names legal kinds_match = label-free S names (Float label constant variable) label refl legal kinds_match
may-declare S (Ess label expr) names legal kinds_match = label-free S names (Ess label expr) label refl legal kinds_match
may-declare S (Axiom label expr) names legal kinds_match = label-free S names (Axiom label expr) label refl legal kinds_match
may-declare S (Prove label expr proof) names legal kinds_match = label-free S names (Prove label expr proof) label refl legal kinds_match
may-declare S Open names legal kinds_match = tt
may-declare S Close names legal kinds_match = tt
may-declare S (Disj xs) names legal kinds_match = tt

pub numbering-after : (S : Database) (s : Stmt) (names : Declared) → broken_rule S s ≡ None → IsNumberingOf S names → IsNumberingOf (S ++ s ∷ []) (declared_with names s)
numbering-after S (Const xs) names legal k = numbering-constants S names xs legal k
numbering-after S (Var xs) names legal k = numbering-variables S names xs legal k
numbering-after S (Float label constant variable) names legal k = numbering-label S names (Float label constant variable) label refl refl refl refl legal k
numbering-after S (Ess label expr) names legal k = numbering-label S names (Ess label expr) label refl refl refl refl legal k
numbering-after S (Axiom label expr) names legal k = numbering-label S names (Axiom label expr) label refl refl refl refl legal k
numbering-after S (Prove label expr proof) names legal k = numbering-label S names (Prove label expr proof) label refl refl refl refl legal k
numbering-after S Open names legal k = numbering-nothing S Open names (λ x. refl) refl refl refl refl k
numbering-after S Close names legal k = numbering-nothing S Close names (λ x. refl) refl refl refl refl k
numbering-after S (Disj xs) names legal k = numbering-nothing S (Disj xs) names (λ x. refl) refl refl refl refl k

-- names are only added at the end
pub declared_with-more : (names : Declared) (s : Stmt) → (more : Declared) × (declared_with names s ≡ names ++ more)
declared_with-more names (Const xs) = with_kinds-more names Constant xs
declared_with-more names (Var xs) = with_kinds-more names Variable xs
declared_with-more names (Float label constant variable) = with_kinds-more names Label (label ∷ [])
declared_with-more names (Ess label expr) = with_kinds-more names Label (label ∷ [])
declared_with-more names (Axiom label expr) = with_kinds-more names Label (label ∷ [])
declared_with-more names (Prove label expr proof) = with_kinds-more names Label (label ∷ [])
declared_with-more names Open = ([], sym (append-nil names))
declared_with-more names Close = ([], sym (append-nil names))
declared_with-more names (Disj xs) = ([], sym (append-nil names))

-- the recorded numbers of a legal statement are those of its symbols
pub recorded-after : (S : Database) (s : Stmt) (names : Declared) (old new : Option (List ℕ)) → broken_rule S s ≡ None → IsNumberingOf S names → IsRecordedBy (declared_with names s) s old new
    → AreRecorded (symbols_after S s) (symbols_in s) old → AreRecorded (symbols_after S s) (symbols_in s) new
recorded-after S (Const xs) names old new legal k is recorded = subst (λ (N : List Name). AreRecorded N xs new) ((numbering-constants S names xs legal k).symbols ∙ symbols_of-append S (Const xs)) is
recorded-after S (Var xs) names old new legal k is recorded = subst (λ (N : List Name). AreRecorded N xs new) ((numbering-variables S names xs legal k).symbols ∙ symbols_of-append S (Var xs)) is
recorded-after S (Float label constant variable) names old new legal k is recorded = subst (AreRecorded (symbols_of S) (constant ∷ variable ∷ [])) (sym is) recorded
recorded-after S (Ess label expr) names old new legal k is recorded = subst (AreRecorded (symbols_of S) expr) (sym is) recorded
recorded-after S (Axiom label expr) names old new legal k is recorded = subst (AreRecorded (symbols_of S) expr) (sym is) recorded
recorded-after S (Prove label expr proof) names old new legal k is recorded = subst (AreRecorded (symbols_of S) expr) (sym is) recorded
recorded-after S Open names old new legal k is recorded = subst (AreRecorded (symbols_of S) []) (sym is) recorded
recorded-after S Close names old new legal k is recorded = subst (AreRecorded (symbols_of S) []) (sym is) recorded
recorded-after S (Disj xs) names old new legal k is recorded = subst (AreRecorded (symbols_of S) xs) (sym is) recorded
