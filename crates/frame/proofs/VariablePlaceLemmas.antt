-- The typecode of an active `$f` is no variable, a used variable has an active `$f`, and the
-- mandatory variables are those of the mandatory `$f`.
use Rattle.frame.proofs.Words.{list_any, ◌∙◌, ap, inl, inr, append_assoc, ◌≡◌, ℕ, suc, Bool, true, false, ◌||◌, List, [], ◌∷◌, ◌++◌, length, refl, not, ◌&&◌, or_left, or_cases, and_parts, not_both, list_any-append, list_any-from_Any, Any-from_list_any, Name, has_name, Stmt, Database, Expr, is_assertion, is_variable, is_float_of, stays_open, active, constants, variables, expr_of, is_essential, is_constant, has_float, IsLegal, starts_with_constant, is_used, is_mandatory, is_hypothesis, hypotheses, In, all-has, BeginsWithNoVariable, AreAllLegal}
use Rattle.mm_read.specs.declared.stmt.Stmt.TheVariants.{Float, Ess, Axiom, Prove}
use Rattle.frame.proofs.LegalAfter.{legal-keeps, kept-legal, constant-no_variable}
use Rattle.frame.proofs.ActiveAfter.{active-stands, stands-active, open_both, implied}
use Rattle.frame.proofs.CollectLemmas.{in-contains, contains-in}
use Rattle.frame.proofs.ActiveFloats.{float-of-kind}
use Rattle.frame.proofs.PlacedHypotheses.{members, used-cases}

-- ---- constants and variables of legal statements

-- if a statement that passes is active after A, and no later one closes a block of A, one is active
-- after S
pub still-active : (q : Stmt → Bool) (S A : Database) (t : Stmt) (B : Database) → S ≡ A ++ t ∷ B → stays_open 0 (t ∷ B) ≡ true → list_any (λ p. q p.1) (active A) ≡ true → list_any (λ p. q p.1) (active S) ≡ true
still-active q S A t B whole stays h =
    let r = active-stands q 1 A h in
    let longer : S ≡ r.front ++ r.stmt ∷ (r.rest ++ t ∷ B) = whole ∙ (ap (λ w. w ++ t ∷ B) r.whole ∙ append_assoc r.front (r.stmt ∷ r.rest) (t ∷ B)) in
    ap (λ w. list_any (λ p. q p.1) (active w)) longer ∙ stands-active q 1 r.front r.stmt (r.rest ++ t ∷ B) (open_both 0 r.rest (t ∷ B) r.stays stays) r.passes

constant-front : (S A : Database) (t : Stmt) (B : Database) (x : Name) → S ≡ A ++ t ∷ B → is_constant A x ≡ true → is_constant S x ≡ true
constant-front S A t B x whole h =
    ap (λ w. is_constant w x) whole ∙ (list_any-append (λ s. has_name x (constants s)) A (t ∷ B) ∙ or_left (is_constant A x) _ h)

-- the typecode of an active `$f` is not a variable, and its variable is one
pub float-kinds : (S A : Database) (l c x : Name) (B : Database) → AreAllLegal S → S ≡ A ++ Float l c x ∷ B → stays_open 0 B ≡ true → (is_variable S c ≡ false) × (is_variable S x ≡ true)
float-kinds S A l c x B all whole stays =
    let legal = kept-legal S A (Float l c x) B all whole in
    let k = legal-keeps A (Float l c x) legal in
    let g6 : is_constant A c ≡ true = k.g6 in
    let g7 : (is_variable A x && not (has_float A x)) ≡ true = k.g7 in (
      constant-no_variable S c all (constant-front S A (Float l c x) B c whole g6),
      still-active (λ s. has_name x (variables s)) S A (Float l c x) B whole stays (and_parts (is_variable A x) (not (has_float A x)) g7).0,
    )

-- the expression of a legal statement begins with a constant, and so not with a variable if no
-- constant is one
fixed : (S A : Database) (s : Stmt) → ((x : Name) → is_constant A x ≡ true → is_variable S x ≡ false) → IsLegal A s → BeginsWithNoVariable S (expr_of s)
fixed S A s other legal = by s legal
  where
    first : (e : Expr) → starts_with_constant A e ≡ true → BeginsWithNoVariable S e
    first [] h = tt
    first (x ∷ e) h = other x h

    by : (s : Stmt) → IsLegal A s → BeginsWithNoVariable S (expr_of s)
    by (Float l c x) k = other c (legal-keeps A (Float l c x) k).g6
    by (Ess l e) k = first e (legal-keeps A (Ess l e) k).g6
    by (Axiom l e) k = first e (legal-keeps A (Axiom l e) k).g6
    by (Prove l e p) k = first e (legal-keeps A (Prove l e p) k).g6
    by s k = tt

pub first-fixed : (S A : Database) (t : Stmt) (B : Database) → AreAllLegal S → S ≡ A ++ t ∷ B → BeginsWithNoVariable S (expr_of t)
first-fixed S A t B all whole = fixed S A t (λ x h. constant-no_variable S x all (constant-front S A t B x whole h)) (kept-legal S A t B all whole)

pub own-fixed : (S : Database) (s : Stmt) → AreAllLegal S → IsLegal S s → BeginsWithNoVariable S (expr_of s)
own-fixed S s all legal = fixed S S s (λ x h. constant-no_variable S x all h) legal

typed-own : (S : Database) (s : Stmt) (x : Name) → IsLegal S s → is_assertion s ≡ true → has_name x (expr_of s) ≡ true → is_variable S x ≡ true → has_float S x ≡ true
typed-own S (Axiom l e) x legal asserts h v = implied (is_variable S x) (has_float S x) (all-has (λ y. not (is_variable S y) || has_float S y) x e (legal-keeps S (Axiom l e) legal).g9 h) v
typed-own S (Prove l e p) x legal asserts h v = implied (is_variable S x) (has_float S x) (all-has (λ y. not (is_variable S y) || has_float S y) x e (legal-keeps S (Prove l e p) legal).g9 h) v
typed-own S s x legal asserts h v = cc

-- a statement that is essential and has x in its expression is a `$e` whose expression has x
pub is_ess : (t : Stmt) (x : Name) → (is_essential t && has_name x (expr_of t)) ≡ true → (l : Name) × (e : Expr) × (t ≡ Ess l e) × (has_name x e ≡ true)
is_ess (Ess l e) x h = (l, e, refl, h)
is_ess s x h = cc

-- a variable of a `$e` has a `$f` that is active before it
pub typed-before : (S A : Database) (l : Name) (e : Expr) (B : Database) (x : Name) → AreAllLegal S → S ≡ A ++ Ess l e ∷ B → has_name x e ≡ true → is_variable S x ≡ true → has_float A x ≡ true
typed-before S A l e B x all whole h v =
    let legal = kept-legal S A (Ess l e) B all whole in
    let k = legal-keeps A (Ess l e) legal in
    let known : (is_constant A x || is_variable A x) ≡ true = all-has (λ y. is_constant A y || is_variable A y) x e k.g5 h in
    let var : is_variable A x ≡ true =
    elim (or_cases (is_constant A x) (is_variable A x) known) [
      | inl p ↦ absurd (not_both (is_variable S x) (constant-no_variable S x all (constant-front S A (Ess l e) B x whole p)) v)
      | inr q ↦ q
    ] in
    implied (is_variable A x) (has_float A x) (all-has (λ y. not (is_variable A y) || has_float A y) x e k.g9 h) var

-- a used variable has an active `$f`
pub used-typed : (S : Database) (s : Stmt) (x : Name) → AreAllLegal S → IsLegal S s → is_assertion s ≡ true → is_used S s x ≡ true → is_variable S x ≡ true → has_float S x ≡ true
used-typed S s x all legal asserts used v = elim (used-cases S s x used) [
  | inl h ↦ typed-own S s x legal asserts h v
  | inr r ↦
      let e = is_ess r.stmt x r.passes in
      let whole : S ≡ r.front ++ Ess e.0 e.1 ∷ r.rest = r.whole ∙ ap (λ t. r.front ++ t ∷ r.rest) e.2 in
      still-active (is_float_of x) S r.front (Ess e.0 e.1) r.rest whole r.stays (typed-before S r.front e.0 e.1 r.rest x all whole e.3 v)
]

-- ---- the variables of the mandatory `$f`

-- a mandatory `$f` of x
pub record HasFloatAt (S : Database) (s : Stmt) (x : Name) : Type 0 where
  pub front : Database
  pub label : Name
  pub constant : Name
  pub rest : Database
  pub whole : S ≡ front ++ Float label constant x ∷ rest
  pub listed : In (suc (length front)) (hypotheses S s)

-- a mandatory variable has a mandatory `$f`
pub mandatory-float : (S : Database) (s : Stmt) (x : Name) → AreAllLegal S → IsLegal S s → is_assertion s ≡ true → is_mandatory S s x ≡ true → HasFloatAt S s x
mandatory-float S s x all legal asserts m =
    let p = and_parts (is_variable S x) (is_used S s x) m in
    let r = active-stands (is_float_of x) 1 S (used-typed S s x all legal asserts p.1 p.0) in
    let f = float-of-kind x r.stmt r.passes in
    let whole : S ≡ r.front ++ Float f.0 f.1 x ∷ r.rest = r.whole ∙ ap (λ t. r.front ++ t ∷ r.rest) f.2 in
    record { front = r.front; label = f.0; constant = f.1; rest = r.rest; whole = whole; listed = members S (is_hypothesis S s) (suc (length r.front)) r.front (Float f.0 f.1 x) r.rest whole refl r.stays m }

pub in-any : (q : ℕ → Bool) (ps : List ℕ) (p : ℕ) → In p ps → q p ≡ true → list_any q ps ≡ true
in-any q ps p i h = let c = in-contains p ps i in list_any-from_Any q ps (c.0, p, c.1, c.2, h)

pub any-in : (q : ℕ → Bool) (ps : List ℕ) → list_any q ps ≡ true → (p : ℕ) × In p ps × (q p ≡ true)
any-in q ps h = let a = Any-from_list_any q ps h in (a.1, contains-in a.1 ps (a.0, a.2, a.3), a.4)
