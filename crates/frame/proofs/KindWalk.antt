-- Walking over the active statements of a kind, from the last one back.
use Rattle.frame.proofs.Words.{list_any, sym, ◌∙◌, ap, arith, true≢false, ◌≡◌, ℕ, zero, suc, ◌-◌, ◌<◌, ◌≤◌, Bool, true, false, cond, ◌||◌, ◌==◌, nat_eq, List, [], ◌∷◌, ◌++◌, length, take, filter, slice_get, Some, refl, length-map, false_from_ne_true, same_Some, has-at, name_same, same_name, Name, name_eq, has_name, Stmt, Database, active, disjoint_names, variables, is_essential, name_at, decode, AreDistinct, AreBelow, actives, last_position, last_active_of_kind, last_active_of, is_var, is_disj, Kind, Var, Disj, Entry, LastActive, Storage, stmt_by, stmt_of, names_in, labels_in, statements_of, AreStored}
use Rattle.std.specs.Cmp.{both_ways}
use Rattle.frame.proofs.FoundByNumber.{name_at-injective}
use Rattle.mm_read.specs.declared.stmt.Stmt.TheVariants as stmt
use Rattle.frame.proofs.OpenLemmas.{IsNoClose, last_position-push}
use Rattle.frame.proofs.BlockWalkLemmas.{walk-back, walk-over, back-own}
use Rattle.frame.proofs.StoredOneMore.{numbered-at}
use Rattle.frame.proofs.StoredReading.{get-stmt}

-- ---- numbers are equal exactly if their names are

pub not-has : (names : List Name) (n : ℕ) (x : Name) → has_name x names ≡ false → n < length names → name_eq x (name_at names n) ≡ false
not-has names n x h l = false_from_ne_true (name_eq x (name_at names n)) (λ e. true≢false (sym (has-at names x n l (sym (same_name x (name_at names n) e))) ∙ h))

pub same-number : (names : List Name) (m n : ℕ) → AreDistinct names → m < length names → n < length names → nat_eq m n ≡ name_eq (name_at names m) (name_at names n)
same-number names m n d a b =
    both_ways (nat_eq m n) (name_eq (name_at names m) (name_at names n))
    (λ e. let same : m ≡ n = grind (arith, e) in ap (λ k. name_eq (name_at names m) (name_at names k)) (sym same) ∙ name_same (name_at names m))
    (λ e. let same = name_at-injective names m n d a b (same_name (name_at names m) (name_at names n) e) in grind (arith, same))

pub has-decode : (names : List Name) (x : ℕ) (codes : List ℕ) → AreDistinct names → x < length names → AreBelow (length names) codes
    → list_any (λ y. x == y) codes ≡ has_name (name_at names x) (decode names codes)
has-decode names x [] d l b = refl
has-decode names x (c ∷ codes) d l b =
    ap (λ t. t || list_any (λ y. x == y) codes) (same-number names x c d l b.0) ∙ ap (λ t. name_eq (name_at names x) (name_at names c) || t) (has-decode names x codes d l b.1)

-- ---- a test that only statements of a kind pass

pub any-kind : (kind : Stmt → Bool) (g : ℕ × Stmt → Bool) → ((p : ℕ × Stmt) → kind p.1 ≡ false → g p ≡ false) → (ps : List (ℕ × Stmt)) → list_any g ps ≡ list_any g (filter (λ p. kind p.1) ps)
any-kind kind g no_other [] = refl
any-kind kind g no_other (p ∷ ps) = by (kind p.1) refl (any-kind kind g no_other ps)
  where
    by : (b : Bool) → kind p.1 ≡ b → list_any g ps ≡ list_any g (filter (λ q. kind q.1) ps) → (g p || list_any g ps) ≡ list_any g (cond b (p ∷ filter (λ q. kind q.1) ps) (filter (λ q. kind q.1) ps))
    by true e r = ap (λ t. g p || t) r
    by false e r = ap (λ t. t || list_any g ps) (no_other p e) ∙ r

-- ---- the step from one active statement of a kind to the one before it

-- `last_of_kind` is the last active statement of the kind, and no `$}` is of this kind
pub record IsChain (kind : Stmt → Bool) (last_of_kind : LastActive → ℕ) : Type 0 where
  pub no_close : IsNoClose kind
  pub tells : (S : Database) → last_of_kind (last_active_of S) ≡ last_active_of_kind kind S

pub disjoint_chain : IsChain is_disj (λ l. l.disjoint)
disjoint_chain = record { no_close = refl; tells = λ S. refl }

pub essential_chain : IsChain is_essential (λ l. l.essential)
essential_chain = record { no_close = refl; tells = λ S. refl }

-- the statements of the kind that are active after the first p statements
abbrev pub walked : (Stmt → Bool) → Storage → ℕ → List (ℕ × Stmt)
walked kind k p = actives kind (take p (statements_of k))

-- p is the position of the last of them, or 0 if there is none
pub record IsAt (kind : Stmt → Bool) (k : Storage) (p : ℕ) : Type 0 where
  pub within : p ≤ length k.entries
  pub last : p ≡ last_active_of_kind kind (take p (statements_of k))

-- p is the position of the last one that is active after the first m statements, or 0
pub record IsFrom (kind : Stmt → Bool) (k : Storage) (m p : ℕ) : Type 0 where
  pub at : IsAt kind k p
  pub low : p ≤ m
  pub same : walked kind k p ≡ walked kind k m

pub as-many : (k : Storage) → length (statements_of k) ≡ length k.entries
as-many k = length-map k.entries (stmt_of (names_in k) (labels_in k))

from : (kind : Stmt → Bool) → IsNoClose kind → (k : Storage) (m p : ℕ) → m ≤ length k.entries → p ≡ last_active_of_kind kind (take m (statements_of k)) → IsFrom kind k m p
from kind n k m zero high h = record { at = record { within = omega arith; last = refl }; low = omega arith; same = sym (walk-over kind (take m (statements_of k)) n (sym h)) }
from kind n k m (suc i) high h =
    let b = walk-back kind (statements_of k) m (suc i) n h (λ z. cc) in
    let le = b.1.within in
    let own = back-own kind (statements_of k) m (suc i) b.0 n b.1 in
    record {
      at = record { within = omega (arith, le, high); last = sym (ap last_position own ∙ last_position-push (actives kind (take (suc i - 1) (statements_of k))) (suc i, b.0)) };
      low = le;
      same = own ∙ sym b.1.list;
    }

pub walk-from : {kind : Stmt → Bool} {last_of_kind : LastActive → ℕ} (k : Storage) (m : ℕ) (l : LastActive) → IsChain kind last_of_kind → m ≤ length (statements_of k) → l ≡ last_active_of (take m (statements_of k)) → IsFrom kind k m (last_of_kind l)
walk-from {kind = kind} {last_of_kind = last_of_kind} k m l chain high h =
    from kind chain.no_close k m (last_of_kind l) (omega (arith, high, as-many k)) (ap last_of_kind h ∙ chain.tells (take m (statements_of k)))

-- the statement at p is e, and q is the position of the one before it, or 0
pub record IsStep (kind : Stmt → Bool) (k : Storage) (p : ℕ) (e : Entry) (q : ℕ) : Type 0 where
  pub smaller : q < p
  pub at : IsAt kind k q
  pub list : walked kind k p ≡ walked kind k q ++ (p, stmt_of (names_in k) (labels_in k) e) ∷ []
  pub of_kind : kind (stmt_of (names_in k) (labels_in k) e) ≡ true
  pub below : AreBelow (length (names_in k)) e.symbols

pub walk-step : {kind : Stmt → Bool} {last_of_kind : LastActive → ℕ} {k : Storage} {p : ℕ} (e : Entry) → IsChain kind last_of_kind → AreStored k → IsAt kind k p → (p ≡ 0 → ⊥) → slice_get k.entries (p - 1) ≡ Some e → IsStep kind k p e (last_of_kind e.last_active)
walk-step {kind = kind} {last_of_kind = last_of_kind} {k = k} {p = p} e chain stored at some got =
    let S = statements_of k in
    let high = at.within in
    let b = walk-back kind S p p chain.no_close at.last some in
    let one = b.1.above in
    let f = from kind chain.no_close k (p - 1) (last_of_kind e.last_active) (omega (arith, high)) (ap last_of_kind (stored.kept.linked (p - 1) e got) ∙ chain.tells (take (p - 1) S)) in
    let low = f.low in
    let is : b.0 ≡ stmt_of (names_in k) (labels_in k) e = same_Some _ _ (sym b.1.stands ∙ get-stmt (names_in k) (labels_in k) k.entries (p - 1) e got) in
    record {
      smaller = omega (arith, low, one);
      at = f.at;
      list = b.1.list ∙ (ap (λ r. r ++ (p, b.0) ∷ []) (sym f.same) ∙ ap (λ s. walked kind k (last_of_kind e.last_active) ++ (p, s) ∷ []) is);
      of_kind = ap kind (sym is) ∙ b.1.of_kind;
      below = numbered-at (length (names_in k)) (length (labels_in k)) k.entries stored.kept.coded (p - 1) e got;
    }

-- ---- whether one of the statements walked over has a list that passes a test

-- a statement of the kind has the list of its symbols, and others have the empty list
pub record AreLists (kind : Stmt → Bool) (lists : Stmt → List Name) : Type 0 where
  pub stand : (names labels : List Name) (e : Entry) → kind (stmt_of names labels e) ≡ true → lists (stmt_of names labels e) ≡ decode names e.symbols
  pub other : (s : Stmt) → kind s ≡ false → lists s ≡ []

-- if the empty list fails the test, statements of other kinds do not matter
pub any-active : {kind : Stmt → Bool} {lists : Stmt → List Name} (test : List Name → Bool) (S : Database) → AreLists kind lists → test [] ≡ false
    → list_any (λ q. test (lists q.1)) (actives kind S) ≡ list_any (λ q. test (lists q.1)) (active S)
any-active {kind = kind} {lists = lists} test S are none = sym (any-kind kind (λ q. test (lists q.1)) (λ q o. ap test (are.other q.1 o) ∙ none) (active S))

entry-disj : (names labels : List Name) (e : Entry) → is_disj (stmt_of names labels e) ≡ true → disjoint_names (stmt_of names labels e) ≡ decode names e.symbols
entry-disj names labels e = by e.kind
  where
    by : (kind : Kind) → is_disj (stmt_by kind (name_at labels e.label_count) (decode names e.symbols)) ≡ true → disjoint_names (stmt_by kind (name_at labels e.label_count) (decode names e.symbols)) ≡ decode names e.symbols
    by Disj h = refl
    by kind h = cc

pub entry-var : (names labels : List Name) (e : Entry) → is_var (stmt_of names labels e) ≡ true → variables (stmt_of names labels e) ≡ decode names e.symbols
entry-var names labels e = by e.kind
  where
    by : (kind : Kind) → is_var (stmt_by kind (name_at labels e.label_count) (decode names e.symbols)) ≡ true → variables (stmt_by kind (name_at labels e.label_count) (decode names e.symbols)) ≡ decode names e.symbols
    by Var h = refl
    by kind h = cc

-- a statement that is no `$d` has no disjoint variables
other-disj : (s : Stmt) → is_disj s ≡ false → disjoint_names s ≡ []
other-disj (stmt.Disj n) h = cc
other-disj s h = refl

pub other-var : (s : Stmt) → is_var s ≡ false → variables s ≡ []
other-var (stmt.Var n) h = cc
other-var s h = refl

pub disjoint_lists : AreLists is_disj disjoint_names
disjoint_lists = record { stand = entry-disj; other = other-disj }

pub variable_lists : AreLists is_var variables
variable_lists = record { stand = entry-var; other = other-var }
