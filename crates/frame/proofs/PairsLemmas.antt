-- Names that no `$v` declares, and the lists of the active `$d`.
use Rattle.frame.proofs.Words.{list_any, sym, ◌∙◌, ap, ◌≡◌, ℕ, Bool, true, false, cond, List, [], ◌∷◌, length, map, take, slice_get, Some, refl, or_from, both_ways, false_from_ne_true, Name, name_eq, has_name, active, variables, name_at, decode, AreBelow, take-get, Kind, Var, Entry, stmt_by, stmt_of, AreNumbered, Stmt, disjoint_names, list_any-map, active_disjoint_lists, actives, Database, is_disj}
use Rattle.frame.proofs.ActiveAfter.{active-stands}
use Rattle.frame.proofs.LegalAfter.{stands-at}
use Rattle.frame.proofs.StoredOneMore.{numbered-at}
use Rattle.frame.proofs.FoundByNumber.{map-back}
use Rattle.frame.proofs.KindWalk.{not-has, any-active, disjoint_lists}

-- ---- names without a number

-- a `$v`
abbrev is_var_kind : Kind → Bool
is_var_kind Var = true
is_var_kind kind = false

variables-are : (kind : Kind) (label : Name) (names : List Name) → variables (stmt_by kind label names) ≡ cond (is_var_kind kind) names []
variables-are Var label names = refl
variables-are kind label names = refl

-- a name that no entry declares is declared by no active statement
none-declared : (names labels : List Name) (n : ℕ) (x : Name) (es : List Entry) → ((k : ℕ) (e : Entry) → slice_get es k ≡ Some e → has_name x (variables (stmt_of names labels e)) ≡ false)
    → list_any (λ p. has_name x (variables p.1)) (active (take n (map (stmt_of names labels) es))) ≡ false
none-declared names labels n x es h = false_from_ne_true (list_any (λ p. has_name x (variables p.1)) (active (take n (map (stmt_of names labels) es)))) (λ some.
    let S = map (stmt_of names labels) es in
    let r = active-stands (λ t. has_name x (variables t)) 1 (take n S) some in
    let g = take-get n (length r.front) S r.stmt (ap (λ w. slice_get w (length r.front)) r.whole ∙ stands-at r.front r.stmt r.rest) in
    let e = map-back (stmt_of names labels) es (length r.front) r.stmt g.1 in
    both_ways (has_name x (variables r.stmt)) (ap (λ t. has_name x (variables t)) e.2 ∙ h (length r.front) e.0 e.1) r.passes)

-- a name without a number is declared by no active `$v`
pub unnamed-none : (names labels : List Name) (m n : ℕ) (x : Name) (es : List Entry) → has_name x names ≡ false → AreNumbered (length names) m es
    → list_any (λ p. has_name x (variables p.1)) (active (take n (map (stmt_of names labels) es))) ≡ false
unnamed-none names labels m n x es none a =
    none-declared names labels n x es (λ k e g. ap (has_name x) (variables-are e.kind (name_at labels e.label_count) (decode names e.symbols)) ∙ by (is_var_kind e.kind) e.symbols (numbered-at (length names) m es a k e g))
  where
    by : (t : Bool) (codes : List ℕ) → AreBelow (length names) codes → has_name x (cond t (decode names codes) []) ≡ false
    by false codes b = refl
    by true [] b = refl
    by true (c ∷ codes) b = or_from (name_eq x (name_at names c)) (has_name x (decode names codes)) (not-has names c x none b.0) (by true codes b.1)

-- ---- the lists of the active `$d`

pub groups-any : (test : List Name → Bool) (T : Database) → test [] ≡ false → list_any test (active_disjoint_lists T) ≡ list_any (λ q. test (disjoint_names q.1)) (actives is_disj T)
groups-any test T none = sym (any-active test T disjoint_lists none ∙ list_any-map (λ (q : ℕ × Stmt). disjoint_names q.1) test (active T))
