-- A variable has one active `$f`, and a hypothesis is a `$e` or such a `$f`.
use Rattle.frame.proofs.Words.{sym, ◌∙◌, ap, subst, arith, inl, inr, length-append, take-append-drop, ◌≡◌, ℕ, suc, ◌+◌, ◌-◌, ◌<◌, true, false, not, ◌&&◌, ◌⊎◌, ◌∷◌, ◌++◌, length, take, drop, slice_get, Some, refl, take-append-add, bytes_eq-Decides, and_parts, Name, has_name, Stmt, Expr, Database, stays_open, is_active, is_essential, is_variable, has_float, is_float_of, IsLegal, is_mandatory, is_hypothesis, is_float_in, AreAllLegal}
use Rattle.frame.proofs.LastActiveLemmas.{drop-front}
use Rattle.mm_read.specs.declared.stmt.Stmt.TheVariants as stmt
use Rattle.frame.proofs.ActiveAfter.{stands-active}
use Rattle.frame.proofs.LegalAfter.{legal-keeps, stands-at}
use Rattle.frame.proofs.OpenLemmas.{stays_open-front}
use Rattle.frame.proofs.BlockWalkLemmas.{active-end}

pub rest-active : (S A : Database) (t : Stmt) (B : Database) → S ≡ A ++ t ∷ B → stays_open 0 B ≡ true → is_active S (suc (length A)) (length S + 1) ≡ true
rest-active S A t B whole stays =
    active-end S (length A) (let l = ap length whole in let m = length-append A (t ∷ B) in omega (arith, l, m))
    ∙ (ap (λ T. stays_open 0 (drop (suc (length A)) T)) whole ∙ (ap (stays_open 0) (drop-front A t B) ∙ stays))

-- there is no second `$f` of x after an active one
pub one-float : (S A : Database) (m l x : Name) (B : Database) (k : ℕ) (m' l' : Name) → AreAllLegal S → S ≡ A ++ stmt.Float m l x ∷ B → stays_open 0 B ≡ true → slice_get S k ≡ Some (stmt.Float m' l' x) → length A < k → ⊥
one-float S A m l x B k m' l' all whole stays at_k lt =
    let j = k - suc (length A) in
    let up : k ≡ length A + suc j = omega (arith, lt) in
    let before : take k S ≡ A ++ stmt.Float m l x ∷ take j B = ap (take k) whole ∙ (ap (λ n. take n (A ++ stmt.Float m l x ∷ B)) up ∙ take-append-add A (stmt.Float m l x ∷ B) (suc j)) in
    let legal : IsLegal (take k S) (stmt.Float m' l' x) = let one : suc k - 1 ≡ k = omega arith in subst (λ n. IsLegal (take n S) (stmt.Float m' l' x)) one (all (suc k) (stmt.Float m' l' x) at_k) in
    let g : (is_variable (take k S) x && not (has_float (take k S) x)) ≡ true = (legal-keeps (take k S) (stmt.Float m' l' x) legal).g7 in
    let none = and_parts (is_variable (take k S) x) (not (has_float (take k S) x)) g in
    let inside : stays_open 0 (take j B) ≡ true = stays_open-front 0 (take j B) (drop j B) (ap (stays_open 0) (take-append-drop j B) ∙ stays) in
    let has : has_float (take k S) x ≡ true = ap (λ D. has_float D x) before ∙ stands-active (is_float_of x) 1 A (stmt.Float m l x) (take j B) inside ((bytes_eq-Decides x x).1 refl) in
    let bad : true ≡ false = sym none.1 ∙ ap not has in cc

-- a hypothesis is a `$e`, or the `$f` of a mandatory variable
pub hyp-kind : (S : Database) (s t : Stmt) → is_hypothesis S s t ≡ true → (is_essential t ≡ true) ⊎ ((m : Name) × (l : Name) × (x : Name) × (t ≡ stmt.Float m l x) × (is_mandatory S s x ≡ true))
hyp-kind S s (stmt.Ess m w) h = inl refl
hyp-kind S s (stmt.Float m l x) h = inr (m, l, x, refl, h)
hyp-kind S s t h = cc

pub ess-hyp : (S : Database) (s t : Stmt) → is_essential t ≡ true → is_hypothesis S s t ≡ true
ess-hyp S s (stmt.Ess m w) h = refl
ess-hyp S s t h = cc

pub float-in-kind : (e : Expr) (t : Stmt) → is_float_in e t ≡ true → (m l x : Name) × (t ≡ stmt.Float m l x) × (has_name x e ≡ true)
float-in-kind e (stmt.Float m l x) h = (m, l, x, refl, h)
float-in-kind e s h = cc

pub float-of-kind : (x : Name) (t : Stmt) → is_float_of x t ≡ true → (m l : Name) × (t ≡ stmt.Float m l x)
float-of-kind x (stmt.Float m l y) h = (m, l, ap (stmt.Float m l) (sym ((bytes_eq-Decides x y).0 h)))
float-of-kind x s h = cc

-- two active `$f` of the same variable are at the same position
pub one-place : (S A : Database) (m l x : Name) (B A' : Database) (m' l' : Name) (B' : Database) → AreAllLegal S → S ≡ A ++ stmt.Float m l x ∷ B → stays_open 0 B ≡ true
    → S ≡ A' ++ stmt.Float m' l' x ∷ B' → stays_open 0 B' ≡ true → length A ≡ length A'
one-place S A m l x B A' m' l' B' all whole stays whole' stays' =
    let there : slice_get S (length A) ≡ Some (stmt.Float m l x) = ap (λ w. slice_get w (length A)) whole ∙ stands-at A (stmt.Float m l x) B in
    let there' : slice_get S (length A') ≡ Some (stmt.Float m' l' x) = ap (λ w. slice_get w (length A')) whole' ∙ stands-at A' (stmt.Float m' l' x) B' in
    let f = one-float S A m l x B (length A') m' l' all whole stays there' in
    let g = one-float S A' m' l' x B' (length A) m l all whole' stays' there in
    omega (arith, f, g)
