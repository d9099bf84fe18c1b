-- The symbols and the labels of a list of statements, and names with kinds.
use Rattle.scope.proofs.Words.{◌≡◌, ℕ, ◌+◌, Bool, true, false, cond, ◌||◌, List, [], ◌∷◌, ◌++◌, Option, Some, None, is_some, refl, flat_map, sym, ◌∙◌, ap, true≢false, ◌⊎◌, inl, inr, append_assoc, append-nil, or_left, or_right, Name, name_eq, has_name, Stmt, Open, Close, Const, Var, Disj, Float, Ess, Axiom, Prove, Database, label_of, variables, was_variable, active_from, active_variables, stays_open, with_names, HaveCodes, AreDistinct, distinct-with_names, symbols_declared_by, symbols_from, symbols_of, prepend_option, labels_of, Declared, declared_names, kind_in, with_kind, with_kinds, NameKind, same_name, or_cases, has_name-append, with_names-more, has-more, has-with_names}

-- ---- symbols are only added at the end

pub symbols_from-append : (symbols : List Name) (S T : Database) → symbols_from symbols (S ++ T) ≡ symbols_from (symbols_from symbols S) T
symbols_from-append symbols [] T = refl
symbols_from-append symbols (s ∷ S) T = symbols_from-append (with_names symbols (symbols_declared_by s)) S T

pub symbols_of-append : (S : Database) (s : Stmt) → symbols_of (S ++ s ∷ []) ≡ with_names (symbols_of S) (symbols_declared_by s)
symbols_of-append S s = symbols_from-append [] S (s ∷ [])

symbols_from-more : (symbols : List Name) (S : Database) → (more : List Name) × (symbols_from symbols S ≡ symbols ++ more)
symbols_from-more symbols [] = ([], sym (append-nil symbols))
symbols_from-more symbols (s ∷ S) =
    let one = with_names-more symbols (symbols_declared_by s) in
    let rest = symbols_from-more (with_names symbols (symbols_declared_by s)) S in
    (one.0 ++ rest.0, rest.1 ∙ (ap (λ ns. ns ++ rest.0) one.1 ∙ append_assoc symbols one.0 rest.0))

-- the symbols after later statements are the earlier ones and then others
pub symbols_of-later : (S T : Database) → (more : List Name) × (symbols_of (S ++ T) ≡ symbols_of S ++ more)
symbols_of-later S T = let rest = symbols_from-more (symbols_of S) T in (rest.0, symbols_from-append [] S T ∙ rest.1)

-- no symbol is in the list twice
pub symbols-distinct : (S : Database) → AreDistinct (symbols_of S)
symbols-distinct S = by [] S tt
  where
    by : (symbols : List Name) (S : Database) → AreDistinct symbols → AreDistinct (symbols_from symbols S)
    by symbols [] d = d
    by symbols (s ∷ S) d = by (with_names symbols (symbols_declared_by s)) S (distinct-with_names symbols (symbols_declared_by s) d)

-- ---- labels are only added at the end

pub labels_of-append : (S T : Database) → labels_of (S ++ T) ≡ labels_of S ++ labels_of T
labels_of-append [] T = refl
labels_of-append (t ∷ S) T = ap (prepend_option (label_of t)) (labels_of-append S T) ∙ by (label_of t)
  where
    by : (l : Option Name) → prepend_option l (labels_of S ++ labels_of T) ≡ prepend_option l (labels_of S) ++ labels_of T
    by None = refl
    by (Some l) = refl

-- ---- an active symbol was declared

pub active-was : (at : ℕ) (S : Database) (x : Name) → has_name x (flat_map (λ p. variables p.1) (active_from at S)) ≡ true → was_variable S x ≡ true
active-was at [] x h = cc
active-was at (s ∷ S) x h = by (stays_open 0 S) h (active-was (at + 1) S x)
  where
    first : (has_name x (variables s) ≡ true) ⊎ (was_variable S x ≡ true) → was_variable (s ∷ S) x ≡ true
    first (inl k) = or_left (has_name x (variables s)) (was_variable S x) k
    first (inr k) = or_right (has_name x (variables s)) (was_variable S x) k

    both : (has_name x (variables s) ≡ true) ⊎ (has_name x (flat_map (λ (p : ℕ × Stmt). variables p.1) (active_from (at + 1) S)) ≡ true)
        → (has_name x (flat_map (λ (p : ℕ × Stmt). variables p.1) (active_from (at + 1) S)) ≡ true → was_variable S x ≡ true) → was_variable (s ∷ S) x ≡ true
    both (inl k) rest = first (inl k)
    both (inr k) rest = first (inr (rest k))

    by : (b : Bool) → has_name x (flat_map (λ (p : ℕ × Stmt). variables p.1) (cond b ((at, s) ∷ active_from (at + 1) S) (active_from (at + 1) S))) ≡ true
        → (has_name x (flat_map (λ (p : ℕ × Stmt). variables p.1) (active_from (at + 1) S)) ≡ true → was_variable S x ≡ true) → was_variable (s ∷ S) x ≡ true
    by true k rest = both (or_cases (has_name x (variables s)) _ (sym (has_name-append x (variables s) _) ∙ k)) rest
    by false k rest = first (inr (rest k))

-- a name that a statement declares as a variable is a symbol that it declares
declares : (s : Stmt) (x : Name) → has_name x (variables s) ≡ true → has_name x (symbols_declared_by s) ≡ true
declares (Var names) x h = h
declares Open x h = cc
declares Close x h = cc
declares (Const names) x h = cc
declares (Disj names) x h = cc
declares (Float label constant variable) x h = cc
declares (Ess label expr) x h = cc
declares (Axiom label expr) x h = cc
declares (Prove label expr proof) x h = cc

was-named : (names : List Name) (S : Database) (x : Name) → was_variable S x ≡ true → has_name x (symbols_from names S) ≡ true
was-named names [] x h = cc
was-named names (s ∷ S) x h = elim (or_cases (has_name x (variables s)) (was_variable S x) h) [
  | inl k ↦ let rest = symbols_from-more (with_names names (symbols_declared_by s)) S in
      ap (has_name x) rest.1 ∙ has-more x (with_names names (symbols_declared_by s)) rest.0 (has-with_names x names (symbols_declared_by s) (declares s x k))
  | inr k ↦ was-named (with_names names (symbols_declared_by s)) S x k
]

-- the active variables are declared symbols
pub active-named : (S : Database) → HaveCodes (symbols_of S) (active_variables S)
active-named S x h = was-named [] S x (active-was 1 S x h)

-- ---- names with kinds

-- the kind of a name after another declaration: the kind that it has, or else the new one if it is
-- declared
abbrev pub or_kind : Option NameKind → Bool → NameKind → Option NameKind
or_kind (Some k) new kind = Some k
or_kind None true kind = Some kind
or_kind None false kind = None

-- the kind of a name after one more name is declared
pub kind_in-append : (names : Declared) (x y : Name) (kind : NameKind) → kind_in (names ++ (y, kind) ∷ []) x ≡ or_kind (kind_in names x) (name_eq x y) kind
kind_in-append [] x y kind = by (name_eq x y)
  where
    by : (b : Bool) → cond b (Some kind) None ≡ or_kind None b kind
    by true = refl
    by false = refl
kind_in-append (p ∷ names) x y kind = by (name_eq x p.0) (kind_in-append names x y kind)
  where
    by : (b : Bool) → kind_in (names ++ (y, kind) ∷ []) x ≡ or_kind (kind_in names x) (name_eq x y) kind
        → cond b (Some p.1) (kind_in (names ++ (y, kind) ∷ []) x) ≡ or_kind (cond b (Some p.1) (kind_in names x)) (name_eq x y) kind
    by true e = refl
    by false e = e

kind_in-with_kind : (names : Declared) (x y : Name) (kind : NameKind) → kind_in (with_kind names kind y) x ≡ or_kind (kind_in names x) (name_eq x y) kind
kind_in-with_kind names x y kind = by (is_some (kind_in names y)) refl
  where
    known : (k : Option NameKind) (b : Bool) → (b ≡ true → is_some k ≡ true) → k ≡ or_kind k b kind
    known (Some k) b h = refl
    known None true h = absurd (true≢false (sym (h refl)))
    known None false h = refl

    by : (b : Bool) → is_some (kind_in names y) ≡ b → kind_in (cond b names (names ++ (y, kind) ∷ [])) x ≡ or_kind (kind_in names x) (name_eq x y) kind
    by true h = known (kind_in names x) (name_eq x y) (λ e. ap (λ z. is_some (kind_in names z)) (same_name x y e) ∙ h)
    by false h = kind_in-append names x y kind

pub kind_in-with_kinds : (names : Declared) (x : Name) (kind : NameKind) (xs : List Name) → kind_in (with_kinds names kind xs) x ≡ or_kind (kind_in names x) (has_name x xs) kind
kind_in-with_kinds names x kind [] = none (kind_in names x)
  where
    none : (k : Option NameKind) → k ≡ or_kind k false kind
    none (Some k) = refl
    none None = refl
kind_in-with_kinds names x kind (y ∷ xs) =
    kind_in-with_kinds (with_kind names kind y) x kind xs
    ∙ (ap (λ k. or_kind k (has_name x xs) kind) (kind_in-with_kind names x y kind) ∙ twice (kind_in names x) (name_eq x y) (has_name x xs))
  where
    twice : (k : Option NameKind) (a b : Bool) → or_kind (or_kind k a kind) b kind ≡ or_kind k (a || b) kind
    twice (Some k) a b = refl
    twice None true b = refl
    twice None false b = refl
