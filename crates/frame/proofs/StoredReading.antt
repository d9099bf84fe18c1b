-- Reading an entry of the storage, and finding the position of a label.
use Rattle.frame.proofs.Words.{sym, ◌∙◌, ap, subst, arith, inl, inr, ◌≡◌, ℕ, zero, suc, ◌+◌, ◌-◌, ◌<◌, ◌≤◌, true, false, ◌⊎◌, List, [], ◌∷◌, length, map, get_or, slice_get, Option, Some, None, option_map, refl, same_Some, slice_get-map, slice_get_within, get_or_from_slice_get, bytes_eq-Decides, both_ways, list_any_at, Name, Stmt, Database, stmt_at, label_of, expr_of, is_assertion, was_label, has_label, name_at, decode, labels_of, prepend_option, is_hypothesis_kind, Kind, Float, Ess, Axiom, Prove, Entry, is_labelled_kind, stmt_by, stmt_of, positions_from, option_position, HasTwoSymbolsIfFloat, AreNumbered, place}

-- ---- reading an entry

pub get-stmt : (names labels : List Name) (es : List Entry) (i : ℕ) (e : Entry) → slice_get es i ≡ Some e → slice_get (map (stmt_of names labels) es) i ≡ Some (stmt_of names labels e)
get-stmt names labels es i e h = slice_get-map (stmt_of names labels) es i ∙ ap (option_map (stmt_of names labels)) h

pub stmt-at-suc : (S : Database) (at : ℕ) → 1 ≤ at → stmt_at S at ≡ slice_get S (at - 1)
stmt-at-suc S zero h = absurd (omega (arith, h))
stmt-at-suc S (suc n) h = ap (slice_get S) (omega arith)

pub two-of : (n m : ℕ) (es : List Entry) → AreNumbered n m es → (k : ℕ) (e : Entry) → slice_get es k ≡ Some e → HasTwoSymbolsIfFloat e.kind e.symbols
two-of n m [] h k e g = cc
two-of n m (d ∷ es) h zero e g = let same : d ≡ e = cc in subst (λ x. HasTwoSymbolsIfFloat x.kind x.symbols) same h.3
two-of n m (d ∷ es) h (suc k) e g = two-of n m es h.2 k e g

two-names : (names : List Name) (codes : List ℕ) → length codes ≡ 2 → decode names codes ≡ name_at (decode names codes) 0 ∷ name_at (decode names codes) 1 ∷ []
two-names names (x ∷ y ∷ []) h = refl
two-names names codes h = absurd (omega (arith, h))

pub entry-expr : (names labels : List Name) (e : Entry) → is_labelled_kind e.kind ≡ true → HasTwoSymbolsIfFloat e.kind e.symbols → decode names e.symbols ≡ expr_of (stmt_of names labels e)
entry-expr names labels e = by e.kind
  where
    by : (kind : Kind) → is_labelled_kind kind ≡ true → HasTwoSymbolsIfFloat kind e.symbols → decode names e.symbols ≡ expr_of (stmt_by kind (name_at labels e.label_count) (decode names e.symbols))
    by Float h t = two-names names e.symbols t
    by kind h t = cc

pub entry-none : (names labels : List Name) (e : Entry) → is_labelled_kind e.kind ≡ false → expr_of (stmt_of names labels e) ≡ []
entry-none names labels e = by e.kind
  where
    by : (kind : Kind) → is_labelled_kind kind ≡ false → expr_of (stmt_by kind (name_at labels e.label_count) (decode names e.symbols)) ≡ []
    by Float h = cc
    by kind h = cc

-- a statement that is neither a hypothesis nor an assertion
pub neither : (names labels : List Name) (e : Entry) → (e.kind ≡ Float → ⊥) → (e.kind ≡ Ess → ⊥) → (e.kind ≡ Axiom → ⊥) → (e.kind ≡ Prove → ⊥)
    → (is_hypothesis_kind (stmt_of names labels e) ≡ false) × (is_assertion (stmt_of names labels e) ≡ false)
neither names labels e = by e.kind
  where
    by : (kind : Kind) → (kind ≡ Float → ⊥) → (kind ≡ Ess → ⊥) → (kind ≡ Axiom → ⊥) → (kind ≡ Prove → ⊥)
        → (is_hypothesis_kind (stmt_by kind (name_at labels e.label_count) (decode names e.symbols)) ≡ false) × (is_assertion (stmt_by kind (name_at labels e.label_count) (decode names e.symbols)) ≡ false)
    by Float a b c d = absurd (a refl)
    by Ess a b c d = absurd (b refl)
    by Axiom a b c d = absurd (c refl)
    by Prove a b c d = absurd (d refl)
    by kind a b c d = (refl, refl)

-- ---- the position of a label

abbrev IsThere : Database → List ℕ → ℕ → ℕ → Name → Type 0
IsThere S ps at n x = (i : ℕ) × (s : Stmt) × (slice_get S i ≡ Some s) × (label_of s ≡ Some x) × (get_or ps n 0 ≡ at + i)

place-step : (at : ℕ) (s : Stmt) (S : Database) (x : Name) (o : Option Name) → label_of s ≡ o → (n : ℕ) → n < length (prepend_option o (labels_of S)) → name_at (prepend_option o (labels_of S)) n ≡ x
    → ((m : ℕ) → m < length (labels_of S) → name_at (labels_of S) m ≡ x → IsThere S (positions_from (at + 1) S) (at + 1) m x)
    → IsThere (s ∷ S) (option_position o at (positions_from (at + 1) S)) at n x
place-step at s S x None has n lt is rest = let r = rest n lt is in (suc r.0, r.1, r.2, r.3, r.4 ∙ place at r.0)
place-step at s S x (Some y) has zero lt is rest = (0, s, refl, has ∙ ap Some is, omega arith)
place-step at s S x (Some y) has (suc n) lt is rest = let r = rest n (omega (arith, lt)) is in (suc r.0, r.1, r.2, r.3, r.4 ∙ place at r.0)

pub label-place : (at : ℕ) (S : Database) (x : Name) (n : ℕ) → n < length (labels_of S) → name_at (labels_of S) n ≡ x
    → (i : ℕ) × (s : Stmt) × (slice_get S i ≡ Some s) × (label_of s ≡ Some x) × (get_or (positions_from at S) n 0 ≡ at + i)
label-place at [] x n h e = absurd (omega (arith, h))
label-place at (s ∷ S) x n h e = place-step at s S x (label_of s) refl n h e (λ m. label-place (at + 1) S x m)

-- no statement has a label that was not used
pub label-none : (S : Database) (x : Name) → was_label S x ≡ false → (i : ℕ) (s : Stmt) → slice_get S i ≡ Some s → label_of s ≡ Some x → ⊥
label-none S x h i s g l =
    let there = ap (λ t. has_label x (label_of t)) (get_or_from_slice_get S i s s g) ∙ (ap (has_label x) l ∙ (bytes_eq-Decides x x).1 refl) in
    both_ways (was_label S x) h (list_any_at (λ t. has_label x (label_of t)) S i s (slice_get_within S i s g) there)

pub entry-assertion : (names labels : List Name) (e : Entry) → (e.kind ≡ Axiom) ⊎ (e.kind ≡ Prove) → is_assertion (stmt_of names labels e) ≡ true
entry-assertion names labels e (inl is) = ap (λ kind. is_assertion (stmt_by kind (name_at labels e.label_count) (decode names e.symbols))) is
entry-assertion names labels e (inr is) = ap (λ kind. is_assertion (stmt_by kind (name_at labels e.label_count) (decode names e.symbols))) is

pub entry-hypothesis : (names labels : List Name) (e : Entry) → (e.kind ≡ Float) ⊎ (e.kind ≡ Ess) → (is_hypothesis_kind (stmt_of names labels e) ≡ true) × (is_assertion (stmt_of names labels e) ≡ false)
entry-hypothesis names labels e (inl is) = rw is (refl, refl)
entry-hypothesis names labels e (inr is) = rw is (refl, refl)

-- the statement of an entry is at the position of the entry
pub entry-stands : (names labels : List Name) (es : List Entry) (at : ℕ) (e : Entry) → 1 ≤ at → slice_get es (at - 1) ≡ Some e → stmt_at (map (stmt_of names labels) es) at ≡ Some (stmt_of names labels e)
entry-stands names labels es at e one g = stmt-at-suc (map (stmt_of names labels) es) at one ∙ get-stmt names labels es (at - 1) e g

-- the statement at the position of an entry is that of the entry
pub is-entry : (names labels : List Name) (es : List Entry) (at : ℕ) (e : Entry) (s : Stmt) → 1 ≤ at → slice_get es (at - 1) ≡ Some e → stmt_at (map (stmt_of names labels) es) at ≡ Some s → stmt_of names labels e ≡ s
is-entry names labels es at e s one g h = same_Some _ _ (sym (entry-stands names labels es at e one g) ∙ h)
