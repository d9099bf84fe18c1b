-- The properties of legal statements that the verifier uses.
use Rattle.frame.proofs.Words.{sym, ◌∙◌, ap, arith, ◌≡◌, ℕ, zero, suc, ◌-◌, ◌<◌, Bool, true, false, not, cond, ◌||◌, List, [], ◌∷◌, take, Some, None, slice_get, refl, get_or-take, length-take, bytes_eq-Decides, list_any_at, slice_get_within, get_or_from_slice_get, Name, Stmt, Database, find, G1, G2, G3, G4, G5, G6, G7, G8, G9, G10, before, label_of, has_label, was_label, was_symbol, IsLegal, keeps, is_fresh_label, Carries, HasLabelsOnce, AreAllLegal}
use Rattle.mm_read.specs.declared.stmt.Stmt.TheVariants.{Float}

-- no element passes the test
abbrev pub AllFail : {A : Type 0} → (A → Bool) → List A → Type 0
AllFail p [] = Unit {0}
AllFail p (x ∷ xs) = (p x ≡ false) × AllFail p xs

pub all-fail : {A : Type 0} (p : A → Bool) (xs : List A) → find p xs ≡ None → AllFail p xs
all-fail p [] h = tt
all-fail p (x ∷ xs) h = by (p x) refl h (all-fail p xs)
  where
    by : (b : Bool) → p x ≡ b → cond b (Some x) (find p xs) ≡ None → (find p xs ≡ None → AllFail p xs) → (p x ≡ false) × AllFail p xs
    by true e k rest = cc
    by false e k rest = (e, rest k)

-- a legal statement keeps rule G4
keeps_label : (S : Database) (s : Stmt) → IsLegal S s → not (keeps S s G4) ≡ false
keeps_label S s h = (all-fail (λ rule. not (keeps S s rule)) (G1 ∷ G2 ∷ G3 ∷ G4 ∷ G5 ∷ G6 ∷ G7 ∷ G8 ∷ G9 ∷ G10 ∷ []) h).1.1.1.0

-- if neither of two values holds, the first does not
not_or : (a b : Bool) → not (not (a || b)) ≡ false → a ≡ false
not_or true b h = cc
not_or false b h = refl

by-label : (S : Database) (s : Stmt) → keeps S s G4 ≡ is_fresh_label S (label_of s)
by-label S (Float l c v) = refl
by-label S s = refl

-- no earlier statement has the label of a legal statement
pub fresh : (S : Database) (s : Stmt) (label : Name) → IsLegal S s → label_of s ≡ Some label → was_label S label ≡ false
fresh S s label h e = not_or (was_label S label) (was_symbol S label) (ap not (sym (by-label S s ∙ ap (is_fresh_label S) e)) ∙ keeps_label S s h)

-- a statement with a label passes the test for this label
has_own : (s : Stmt) (label : Name) → label_of s ≡ Some label → has_label label (label_of s) ≡ true
has_own s label e = ap (has_label label) e ∙ (bytes_eq-Decides label label).1 refl

-- after a statement with a label, the label is one that was used
was_there : (S : Database) (n k : ℕ) (s : Stmt) (label : Name) → k < n → slice_get S k ≡ Some s → label_of s ≡ Some label → was_label (take n S) label ≡ true
was_there S n k s label h e l =
    let there = ap (λ t. has_label label (label_of t)) (get_or-take n S k s h ∙ get_or_from_slice_get S k s s e) ∙ has_own s label l in
    list_any_at (λ t. has_label label (label_of t)) (take n S) k s (omega (arith, length-take n S, slice_get_within S k s e, h)) there

-- no later statement has the label
no_later : (S : Database) → AreAllLegal S → (i j : ℕ) (s r : Stmt) (label : Name) → Carries S i s label → Carries S j r label → i < j → ⊥
no_later S kept zero j s r label p q h = let e = p.stands in cc
no_later S kept (suc i) j s r label p q h =
    let a = fresh (before S j) r label (kept j r q.stands) q.carried in
    let b = was_there S (j - 1) i s label (omega (arith, h)) p.stands p.carried in
    let c : true ≡ false = sym b ∙ a in cc

-- no two legal statements have the same label
pub legal-labels : (S : Database) → AreAllLegal S → HasLabelsOnce S
legal-labels S kept i j s r label p q =
    let a = no_later S kept i j s r label p q in
    let b = no_later S kept j i r s label q p in
    omega (arith, a, b)
