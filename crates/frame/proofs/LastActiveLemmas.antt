-- The active statements of a kind after a statement is appended; splitting a list at an element.
use Rattle.frame.proofs.Words.{sym, ◌∙◌, ap, arith, inl, inr, append-nil, length-take-le, ◌≡◌, ℕ, zero, suc, ◌+◌, ◌-◌, Bool, true, false, cond, List, [], ◌∷◌, ◌++◌, length, take, drop, slice_get, Some, refl, take-append_seam, slice_get_within, Stmt, Database, is_open, is_close, is_essential, actives, last_position, last_active_of_kind, last_active_of, is_var, is_disj, LastActive, Kind, kind_of, next_last_active}
use Rattle.frame.proofs.OpenLemmas.{HasLast, IsNoClose, split_last, last-position, last_position-push, actives-append, stays-from, close-actives, close-outside}
use Rattle.entries.specs.declared.kind.Kind.TheVariants.{Close}
use Rattle.mm_read.specs.declared.stmt.Stmt.TheVariants as stmt

pub drop-front : (A : Database) (t : Stmt) (B : Database) → drop (suc (length A)) (A ++ t ∷ B) ≡ B
drop-front [] t B = refl
drop-front (a ∷ A) t B = drop-front A t B

-- a list is the elements before an index, the element there, and those after it
pub cut-here : {A : Type 0} (S : List A) (k : ℕ) (t : A) → slice_get S k ≡ Some t → S ≡ take k S ++ t ∷ drop (suc k) S
cut-here [] k t g = cc
cut-here (x ∷ S) zero t g = let same : x ≡ t = cc in ap (λ v. v ∷ S) same
cut-here (x ∷ S) (suc k) t g = ap (λ r. x ∷ r) (cut-here S k t g)

pub length-cut : {A : Type 0} (S : List A) (k : ℕ) (t : A) → slice_get S k ≡ Some t → length (take k S) ≡ k
length-cut S k t g = length-take-le k S (let lt = slice_get_within S k t g in omega (arith, lt))

-- ---- a statement is appended

pub actives-push : (kind : Stmt → Bool) (S : Database) (s : Stmt) → is_close s ≡ false → actives kind (S ++ s ∷ []) ≡ actives kind S ++ cond (kind s) ((1 + length S, s) ∷ []) []
actives-push kind S s c = actives-append kind 1 S (s ∷ []) (stays-from s [] c refl)

pub last-push : (kind : Stmt → Bool) (S : Database) (s : Stmt) → is_close s ≡ false → last_active_of_kind kind (S ++ s ∷ []) ≡ cond (kind s) (1 + length S) (last_active_of_kind kind S)
last-push kind S s c = ap last_position (actives-push kind S s c) ∙ by (kind s)
  where
    by : (b : Bool) → last_position (actives kind S ++ cond b ((1 + length S, s) ∷ []) []) ≡ cond b (1 + length S) (last_active_of_kind kind S)
    by true = last_position-push (actives kind S) (1 + length S, s)
    by false = ap last_position (append-nil (actives kind S))

-- after a `$}` the statements are active that were active before its `${`
pub actives-close : (kind : Stmt → Bool) (S : Database) → IsNoClose kind → actives kind (S ++ stmt.Close ∷ []) ≡ actives kind (take (last_active_of_kind is_open S - 1) S)
actives-close kind S n = by (split_last is_open S)
  where
    by : HasLast is_open S → actives kind (S ++ stmt.Close ∷ []) ≡ actives kind (take (last_active_of_kind is_open S - 1) S)
    by (inl e) = rw (e 1) (close-outside kind S n (e 1))
    by (inr p) =
        let back : last_active_of_kind is_open S - 1 ≡ length p.0 = omega (arith, last-position is_open S p.0 p.1 p.2 refl p.3) in
        close-actives kind S p.0 p.1 p.2 n p.3 ∙ rw back (ap (actives kind) (sym (ap (take (length p.0)) p.3.cut ∙ take-append_seam p.0 (p.1 ∷ p.2))))

last-close : (kind : Stmt → Bool) (S : Database) → IsNoClose kind → last_active_of_kind kind (S ++ stmt.Close ∷ []) ≡ last_active_of_kind kind (take (last_active_of_kind is_open S - 1) S)
last-close kind S n = ap last_position (actives-close kind S n)

-- ---- the last active statements

-- a statement that is no `$}` becomes the last active one of its kinds
abbrev moved : LastActive → ℕ → Stmt → LastActive
moved l at s = record { block = cond (is_open s) at l.block; essential = cond (is_essential s) at l.essential; variable = cond (is_var s) at l.variable; disjoint = cond (is_disj s) at l.disjoint }

moved-next : (l : LastActive) (at : ℕ) (s : Stmt) → next_last_active l at (kind_of s) ≡ moved l at s
moved-next l at stmt.Open = refl
moved-next l at s = refl

open-kind : (s : Stmt) → (kind_of s ≡ Close → ⊥) → is_close s ≡ false
open-kind stmt.Close differs = absurd (differs refl)
open-kind s differs = refl

pub last_active-next : (S : Database) (l : LastActive) (at : ℕ) (s : Stmt) (kind : Kind) → l ≡ last_active_of S → at ≡ 1 + length S → kind_of s ≡ kind → (kind ≡ Close → ⊥) → next_last_active l at kind ≡ last_active_of (S ++ s ∷ [])
last_active-next S l at s kind e a is differs =
    let open_ = open-kind s (λ c. differs (sym is ∙ c)) in
    rw (last-push is_open S s open_, last-push is_essential S s open_, last-push is_var S s open_, last-push is_disj S s open_, ← is, a, e) (moved-next (last_active_of S) (1 + length S) s)

is-close : (s : Stmt) → kind_of s ≡ Close → s ≡ stmt.Close
is-close stmt.Close e = refl
is-close s e = cc

pub last_active-close : (S : Database) (s : Stmt) → kind_of s ≡ Close → last_active_of (take (last_active_of_kind is_open S - 1) S) ≡ last_active_of (S ++ s ∷ [])
last_active-close S s is = rw (is-close s is, last-close is_open S refl, last-close is_essential S refl, last-close is_var S refl, last-close is_disj S refl) refl
