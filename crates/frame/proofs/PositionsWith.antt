-- The positions of the active statements that have a symbol.
use Rattle.frame.proofs.Words.{◌≡◌, ◌∙◌, ap, arith, refl, ℕ, zero, suc, ◌+◌, ◌-◌, ◌≤◌, Bool, true, false, cond, nat_eq, List, [], ◌∷◌, ◌++◌, length, take, length-take, list_any, Stmt, Database, Entry, stays_open, actives, actives_from, option_symbols, has_code, having_after, positions_with, opening, sym, subst, ◌&&◌}
use Rattle.frame.proofs.ActivePositions.{actives-cons}
use Rattle.frame.proofs.BlockWalkLemmas.{get-take}

-- ---- the positions of the statements that have a symbol

pub having-append : (found : List ℕ) (es : List Entry) (c : ℕ) (ps qs : List (ℕ × Stmt)) → having_after found es c (ps ++ qs) ≡ having_after (having_after found es c ps) es c qs
having-append found es c [] qs = refl
having-append found es c (p ∷ ps) qs = having-append (cond (has_code es c p.0) (p.0 ∷ found) found) es c ps qs

pub positions_with-push : (es : List Entry) (c : ℕ) (ps : List (ℕ × Stmt)) (p : ℕ × Stmt) → positions_with es c (ps ++ p ∷ []) ≡ cond (has_code es c p.0) (p.0 ∷ positions_with es c ps) (positions_with es c ps)
positions_with-push es c ps p = having-append [] es c ps (p ∷ [])

abbrev pub AreIn : ℕ → ℕ → List (ℕ × Stmt) → Type 0
AreIn from to [] = Unit {0}
AreIn from to (p ∷ ps) = ((from ≤ p.0) × (p.0 ≤ to)) × AreIn from to ps

pub actives-in : (kind : Stmt → Bool) (low at high : ℕ) (S : Database) → low ≤ at → at + length S ≤ high + 1 → AreIn low high (actives_from kind at S)
actives-in kind low at high [] le h = tt
actives-in kind low at high (s ∷ S) le h =
    let rest = actives-in kind low (at + 1) high S (omega (arith, le)) (omega (arith, h)) in
    subst (AreIn low high) (sym (actives-cons kind at s S))
    (elim (stays_open 0 S && kind s) as (λ b. AreIn low high (cond b ((at, s) ∷ actives_from kind (at + 1) S) (actives_from kind (at + 1) S))) [ true ↦ ((le, omega (arith, h)), rest) | false ↦ rest ])

positions_with-same : (found : List ℕ) (es fs : List Entry) (c n : ℕ) (ps : List (ℕ × Stmt)) → AreIn 1 n ps → ((p : ℕ) → 1 ≤ p → p ≤ n → has_code es c p ≡ has_code fs c p) → having_after found es c ps ≡ having_after found fs c ps
positions_with-same found es fs c n [] are same = refl
positions_with-same found es fs c n (p ∷ ps) are same =
    ap (λ b. having_after (cond b (p.0 ∷ found) found) es c ps) (same p.0 are.0.0 are.0.1) ∙ positions_with-same (cond (has_code fs c p.0) (p.0 ∷ found) found) es fs c n ps are.1 same

code-front : (es : List Entry) (c n p : ℕ) → 1 ≤ p → p ≤ n → has_code (take n es) c p ≡ has_code es c p
code-front es c n p one le = ap (λ o. list_any (λ x. nat_eq c x) (option_symbols o)) (get-take (p - 1) n es (omega (arith, one, le)))

-- the statements active after the first m statements are found in the first n entries, if m is at
-- most n
pub positions_with-front : (kind : Stmt → Bool) (es : List Entry) (c n m : ℕ) (S : Database) → m ≤ n → positions_with (take n es) c (actives kind (take m S)) ≡ positions_with es c (actives kind (take m S))
positions_with-front kind es c n m S le =
    positions_with-same [] (take n es) es c n (actives kind (take m S)) (actives-in kind 1 1 n (take m S) (omega arith) (omega (arith, length-take {A = Stmt}, le)))
    (λ p one low. code-front es c n p one low)

-- ---- the position to which a `$}` goes back

pub opening-back : (b : ℕ) → opening b - 1 ≡ b - 1
opening-back zero = refl
opening-back (suc b) = refl
