-- No rule looks at a proof, and a statement declares the same names without it.
use Rattle.scope.proofs.Words.{◌≡◌, ℕ, zero, suc, ◌+◌, ◌==◌, Bool, true, false, not, cond, ◌||◌, ◌&&◌, nat_lt, List, [], ◌∷◌, Some, None, refl, list_any, list_all, ◌∙◌, ap, Name, has_name, Stmt, Open, Close, Const, Var, Disj, Float, Ess, Axiom, Prove, Database, Expr, bare, bares, count, stays_open, active_from, is_open, is_close, constants, variables, label_of, has_label, is_float_of, is_variable, is_constant, was_symbol, was_label, has_float, IsLegal, broken_rule, end_rule, all_different, Declared, symbols_declared_by, declared_with, G1, G2, G3, G4, G5, G6, G7, G8, G9, G10}

-- a function that ignores proofs gives the same for a statement without its proof
pub bare-same : {A : Type 0} (f : Stmt → A) → ((label : Name) (expr : Expr) (proof : List Name) → f (Prove label expr []) ≡ f (Prove label expr proof)) → (s : Stmt) → f (bare s) ≡ f s
bare-same f h (Prove label expr proof) = h label expr proof
bare-same f h Open = refl
bare-same f h Close = refl
bare-same f h (Const names) = refl
bare-same f h (Var names) = refl
bare-same f h (Disj names) = refl
bare-same f h (Float label constant variable) = refl
bare-same f h (Ess label expr) = refl
bare-same f h (Axiom label expr) = refl

pub symbols_declared_by-bare : (s : Stmt) → symbols_declared_by (bare s) ≡ symbols_declared_by s
symbols_declared_by-bare s = bare-same symbols_declared_by (λ l e p. refl) s

pub declared_with-bare : (names : Declared) (s : Stmt) → declared_with names (bare s) ≡ declared_with names s
declared_with-bare names s = bare-same (declared_with names) (λ l e p. refl) s

pub legal-bare : (S : Database) (s : Stmt) → IsLegal S s → IsLegal S (bare s)
legal-bare S s h = bare-same (broken_rule S) (λ l e p. refl) s ∙ h

any-bares : (p : Stmt → Bool) → ((s : Stmt) → p (bare s) ≡ p s) → (S : Database) → list_any p (bares S) ≡ list_any p S
any-bares p h [] = refl
any-bares p h (s ∷ S) = λ j. h s j || any-bares p h S j

pub count-bares : (p : Stmt → Bool) → ((s : Stmt) → p (bare s) ≡ p s) → (S : Database) → count p (bares S) ≡ count p S
count-bares p h [] = refl
count-bares p h (s ∷ S) = λ j. cond (h s j) (1 + count-bares p h S j) (count-bares p h S j)

pub stays_open-bares : (d : ℕ) (S : Database) → stays_open d (bares S) ≡ stays_open d S
stays_open-bares d [] = refl
stays_open-bares d (Open ∷ S) = stays_open-bares (suc d) S
stays_open-bares zero (Close ∷ S) = refl
stays_open-bares (suc d) (Close ∷ S) = stays_open-bares d S
stays_open-bares d (Const names ∷ S) = stays_open-bares d S
stays_open-bares d (Var names ∷ S) = stays_open-bares d S
stays_open-bares d (Disj names ∷ S) = stays_open-bares d S
stays_open-bares d (Float label constant variable ∷ S) = stays_open-bares d S
stays_open-bares d (Ess label expr ∷ S) = stays_open-bares d S
stays_open-bares d (Axiom label expr ∷ S) = stays_open-bares d S
stays_open-bares d (Prove label expr proof ∷ S) = stays_open-bares d S

any-active : (q : Stmt → Bool) → ((s : Stmt) → q (bare s) ≡ q s) → (at : ℕ) (S : Database) → list_any (λ p. q p.1) (active_from at (bares S)) ≡ list_any (λ p. q p.1) (active_from at S)
any-active q h at [] = refl
any-active q h at (s ∷ S) =
    ap (λ b. list_any (λ p. q p.1) (cond b ((at, bare s) ∷ active_from (at + 1) (bares S)) (active_from (at + 1) (bares S)))) (stays_open-bares 0 S)
    ∙ by (stays_open 0 S) (any-active q h (at + 1) S)
  where
    by : (b : Bool) → list_any (λ p. q p.1) (active_from (at + 1) (bares S)) ≡ list_any (λ p. q p.1) (active_from (at + 1) S)
        → list_any (λ (p : ℕ × Stmt). q p.1) (cond b ((at, bare s) ∷ active_from (at + 1) (bares S)) (active_from (at + 1) (bares S))) ≡ list_any (λ (p : ℕ × Stmt). q p.1) (cond b ((at, s) ∷ active_from (at + 1) S) (active_from (at + 1) S))
    by true e = λ j. h s j || e j
    by false e = e

module _ (S : Database) where
  -- the same number of blocks is opened
  opens : count is_open (bares S) ≡ count is_open S
  opens = count-bares is_open (bare-same is_open (λ l e p. refl)) S

  -- the same number of blocks is closed
  closes : count is_close (bares S) ≡ count is_close S
  closes = count-bares is_close (bare-same is_close (λ l e p. refl)) S

  -- the same names were declared as symbols
  symbols : (x : Name) → was_symbol (bares S) x ≡ was_symbol S x
  symbols x = any-bares (λ s. has_name x (constants s) || has_name x (variables s)) (bare-same (λ s. has_name x (constants s) || has_name x (variables s)) (λ l e p. refl)) S

  -- the same names were used as labels
  labels : (x : Name) → was_label (bares S) x ≡ was_label S x
  labels x = any-bares (λ s. has_label x (label_of s)) (bare-same (λ s. has_label x (label_of s)) (λ l e p. refl)) S

  -- the constants are the same
  are_constants : (x : Name) → is_constant (bares S) x ≡ is_constant S x
  are_constants x = any-bares (λ s. has_name x (constants s)) (bare-same (λ s. has_name x (constants s)) (λ l e p. refl)) S

  -- the active variables are the same
  are_variables : (x : Name) → is_variable (bares S) x ≡ is_variable S x
  are_variables x = any-active (λ s. has_name x (variables s)) (bare-same (λ s. has_name x (variables s)) (λ l e p. refl)) 1 S

  -- the same variables have an active `$f`
  floats : (x : Name) → has_float (bares S) x ≡ has_float S x
  floats x = any-active (is_float_of x) (bare-same (is_float_of x) (λ l e p. refl)) 1 S

  -- an axiom breaks the same rule after them
  labelled : (label : Name) (expr : Expr) → broken_rule (bares S) (Axiom label expr) ≡ broken_rule S (Axiom label expr)
  labelled label [] = λ j.
      cond (not (not (labels label j || symbols label j))) (Some G4) None
  labelled label (x ∷ expr) = λ j.
      cond (not (not (labels label j || symbols label j))) (Some G4)
      (cond (not (list_all (λ y. are_constants y j || are_variables y j) (x ∷ expr))) (Some G5)
      (cond (not (are_constants x j)) (Some G6)
      (cond (not (list_all (λ y. not (are_variables y j) || floats y j) (x ∷ expr))) (Some G9) None)))

  pub broken_rule-bares : (s : Stmt) → broken_rule (bares S) s ≡ broken_rule S s
  broken_rule-bares Open = refl
  broken_rule-bares Close = λ j. cond (not (nat_lt (closes j) (opens j))) (Some G10) None
  broken_rule-bares (Const names) = λ j.
      cond (not (opens j == closes j)) (Some G1)
      (cond (not (list_all (λ x. not (symbols x j || labels x j)) names && all_different names)) (Some G2) None)
  broken_rule-bares (Var names) = λ j.
      cond (not (list_all (λ x. not (are_variables x j || are_constants x j || labels x j)) names && all_different names)) (Some G3) None
  broken_rule-bares (Disj names) = λ j. cond (not (all_different names && list_all (λ x. are_variables x j) names)) (Some G8) None
  broken_rule-bares (Float label constant variable) = λ j.
      cond (not (not (labels label j || symbols label j))) (Some G4)
      (cond (not (list_all (λ y. are_constants y j || are_variables y j) (constant ∷ variable ∷ []))) (Some G5)
      (cond (not (are_constants constant j)) (Some G6)
      (cond (not (are_variables variable j && not (floats variable j))) (Some G7) None)))
  broken_rule-bares (Ess label expr) = labelled label expr
  broken_rule-bares (Axiom label expr) = labelled label expr
  broken_rule-bares (Prove label expr proof) = labelled label expr

  pub end_rule-bares : end_rule (bares S) ≡ end_rule S
  end_rule-bares = λ j. cond (opens j == closes j) None (Some G10)
