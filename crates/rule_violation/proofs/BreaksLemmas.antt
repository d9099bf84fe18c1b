-- A violation shows that the statement breaks the rule.
use Rattle.rule_violation.proofs.Words.{◌≡◌, ℕ, zero, suc, ◌<◌, ◌⊎◌, Bool, true, false, not, ◌&&◌, ◌||◌, List, [], ◌∷◌, refl, sym, ◌∙◌, ap, inl, inr, arith, Some, slice_get, IsTrue, Rule, list_all, or-true, or_assoc, or_comm, any_passes_from_place, Name, has_name, name_eq, name_same, Stmt, Open, Close, Const, Var, Disj, Float, Ess, Axiom, Prove, Database, Expr, G1, G2, G3, G4, G5, G6, G7, G8, G9, G10, Memory, constants, variables, disjoint_names, label_of, expr_of, is_constant, is_variable, has_float, was_symbol, was_label, keeps, all_different, is_fresh_label, starts_with_constant, RuleViolation, Statement, Symbol, Twice, SymbolConflict, LabelConflict, has_name_in, PassesAt, IsActiveAt, IsViolation, IsTwice, typed_expr, float_expr}
use Rattle.rule_violation.specs.declared.search.NameRole.TheVariants as name_role
use Rattle.rule_violation.proofs.SearchLemmas.{PassesAt-any, IsActiveAt-any}
use Rattle.rule_violation.proofs.ViolationLemmas.{named_is, fixed_is, keeps_label, keeps_expr, keeps_first, keeps_typed}

-- ---- lists

and_none : (b : Bool) → (b && false) ≡ false
and_none true = refl
and_none false = refl

-- if an element fails a test, not all pass it
fails_at : {A : Type 0} (p : A → Bool) (xs : List A) (k : ℕ) (x : A) → slice_get xs k ≡ Some x → p x ≡ false → list_all p xs ≡ false
fails_at p [] k x e f = cc
fails_at p (y ∷ xs) zero x e f = let same : y ≡ x = cc in ap (λ b. b && list_all p xs) (ap p same ∙ f)
fails_at p (y ∷ xs) (suc k) x e f = ap (λ b. p y && b) (fails_at p xs k x e f) ∙ and_none (p y)

-- if a name occurs twice, the names are not all different
repeats : (names : List Name) (j k : ℕ) (x : Name) → j < k → slice_get names j ≡ Some x → slice_get names k ≡ Some x → all_different names ≡ false
repeats [] j k x low a b = cc
repeats (y ∷ names) zero zero x low a b = absurd (omega (arith, low))
repeats (y ∷ names) zero (suc k) x low a b =
    let same : y ≡ x = cc in
    let again : has_name y names ≡ true = ap (λ z. has_name z names) same ∙ any_passes_from_place (name_eq x) names k x b (name_same x) in
    ap (λ t. not t && all_different names) again
repeats (y ∷ names) (suc j) zero x low a b = absurd (omega (arith, low))
repeats (y ∷ names) (suc j) (suc k) x low a b = ap (λ t. not (has_name y names) && t) (repeats names j k x (omega (arith, low)) a b) ∙ and_none (not (has_name y names))

twice_repeats : (names : List Name) (j k : ℕ) → IsTwice names j k → all_different names ≡ false
twice_repeats names j k h = repeats names j k h.1.name h.0 h.1.holds h.1.is_there

some_same : (x y : Name) → Some x ≡ Some y → x ≡ y
some_same x y e = cc

-- no name is in the empty list
none_there : (k : ℕ) (x : Name) → slice_get [] k ≡ Some x → ⊥
none_there k x e = cc

-- ---- the rules that look at a list of names

-- G2 looks only at the names of a `$c`
keeps_constants : (S : Database) (s : Stmt) → keeps S s G2 ≡ (list_all (λ x. not (was_symbol S x || was_label S x)) (constants s) && all_different (constants s))
keeps_constants S Open = refl
keeps_constants S Close = refl
keeps_constants S (Const x) = refl
keeps_constants S (Var x) = refl
keeps_constants S (Disj x) = refl
keeps_constants S (Float l c v) = refl
keeps_constants S (Ess l e) = refl
keeps_constants S (Axiom l e) = refl
keeps_constants S (Prove l e p) = refl

-- G3 looks only at the names of a `$v`
keeps_variables : (S : Database) (s : Stmt) → keeps S s G3 ≡ (list_all (λ x. not (is_variable S x || is_constant S x || was_label S x)) (variables s) && all_different (variables s))
keeps_variables S Open = refl
keeps_variables S Close = refl
keeps_variables S (Const x) = refl
keeps_variables S (Var x) = refl
keeps_variables S (Disj x) = refl
keeps_variables S (Float l c v) = refl
keeps_variables S (Ess l e) = refl
keeps_variables S (Axiom l e) = refl
keeps_variables S (Prove l e p) = refl

-- G8 looks only at the names of a `$d`
keeps_disjoint : (S : Database) (s : Stmt) → keeps S s G8 ≡ (all_different (disjoint_names s) && list_all (is_variable S) (disjoint_names s))
keeps_disjoint S Open = refl
keeps_disjoint S Close = refl
keeps_disjoint S (Const x) = refl
keeps_disjoint S (Var x) = refl
keeps_disjoint S (Disj x) = refl
keeps_disjoint S (Float l c v) = refl
keeps_disjoint S (Ess l e) = refl
keeps_disjoint S (Axiom l e) = refl
keeps_disjoint S (Prove l e p) = refl

-- the first symbol of an expression is not a constant
first_fails : (S : Database) (expr : Expr) (k : ℕ) (x : Name) → k ≡ 0 → slice_get expr k ≡ Some x → is_constant S x ≡ false → starts_with_constant S expr ≡ false
first_fails S [] k x first e f = absurd (none_there k x e)
first_fails S (y ∷ expr) k x first e f = ap (is_constant S) (some_same y x (ap (slice_get (y ∷ expr)) (sym first) ∙ e)) ∙ f

-- the second of two symbols
second_is : (c v x : Name) (k : ℕ) → k ≡ 1 → slice_get (c ∷ v ∷ []) k ≡ Some x → v ≡ x
second_is c v x k second e = some_same v x (ap (slice_get (c ∷ v ∷ [])) (sym second) ∙ e)

-- ---- each rule

module _ (S : Database) where
  -- a variable that is an earlier constant or label, or an active variable
  old_variable : (x : Name) (i : ℕ) → PassesAt S i (has_name_in name_role.LabelOrConstant x) ⊎ IsActiveAt S i (has_name_in name_role.DeclaredVariable x)
      → (is_variable S x || is_constant S x || was_label S x) ≡ true
  old_variable x i (inl passes) =
      or_assoc (is_variable S x) (is_constant S x) (was_label S x)
      ∙ (ap (λ b. is_variable S x || b) (fixed_is S x ∙ PassesAt-any S i (has_name_in name_role.LabelOrConstant x) passes) ∙ or-true (is_variable S x))
  old_variable x i (inr active) = ap (λ b. (b || is_constant S x) || was_label S x) (IsActiveAt-any S i (has_name_in name_role.DeclaredVariable x) active)

  -- the second symbol of a `$f`
  float_breaks : (s : Stmt) (w : RuleViolation) → IsViolation S s G7 w → keeps S s G7 ≡ false
  float_breaks Open Statement h = absurd h
  float_breaks Open (Symbol k) h = absurd (none_there k h.1.name h.1.is_there)
  float_breaks Open (Twice j k) h = absurd h
  float_breaks Open (SymbolConflict k i) h = absurd (none_there k h.1.name h.1.is_there)
  float_breaks Open (LabelConflict i) h = absurd h
  float_breaks Close Statement h = absurd h
  float_breaks Close (Symbol k) h = absurd (none_there k h.1.name h.1.is_there)
  float_breaks Close (Twice j k) h = absurd h
  float_breaks Close (SymbolConflict k i) h = absurd (none_there k h.1.name h.1.is_there)
  float_breaks Close (LabelConflict i) h = absurd h
  float_breaks (Const x) Statement h = absurd h
  float_breaks (Const x) (Symbol k) h = absurd (none_there k h.1.name h.1.is_there)
  float_breaks (Const x) (Twice j k) h = absurd h
  float_breaks (Const x) (SymbolConflict k i) h = absurd (none_there k h.1.name h.1.is_there)
  float_breaks (Const x) (LabelConflict i) h = absurd h
  float_breaks (Var x) Statement h = absurd h
  float_breaks (Var x) (Symbol k) h = absurd (none_there k h.1.name h.1.is_there)
  float_breaks (Var x) (Twice j k) h = absurd h
  float_breaks (Var x) (SymbolConflict k i) h = absurd (none_there k h.1.name h.1.is_there)
  float_breaks (Var x) (LabelConflict i) h = absurd h
  float_breaks (Disj x) Statement h = absurd h
  float_breaks (Disj x) (Symbol k) h = absurd (none_there k h.1.name h.1.is_there)
  float_breaks (Disj x) (Twice j k) h = absurd h
  float_breaks (Disj x) (SymbolConflict k i) h = absurd (none_there k h.1.name h.1.is_there)
  float_breaks (Disj x) (LabelConflict i) h = absurd h
  float_breaks (Float l c v) Statement h = absurd h
  float_breaks (Float l c v) (Symbol k) h = ap (λ b. b && not (has_float S v)) (ap (is_variable S) (second_is c v h.1.name k h.0 h.1.is_there) ∙ h.1.holds)
  float_breaks (Float l c v) (Twice j k) h = absurd h
  float_breaks (Float l c v) (SymbolConflict k i) h =
      let same = second_is c v h.1.name k h.0 h.1.is_there in
      let typed : has_float S v ≡ true = ap (has_float S) same ∙ IsActiveAt-any S i (has_name_in name_role.FloatVariable h.1.name) h.1.holds in
      ap (λ b. is_variable S v && not b) typed ∙ and_none (is_variable S v)
  float_breaks (Float l c v) (LabelConflict i) h = absurd h
  float_breaks (Ess l e) Statement h = absurd h
  float_breaks (Ess l e) (Symbol k) h = absurd (none_there k h.1.name h.1.is_there)
  float_breaks (Ess l e) (Twice j k) h = absurd h
  float_breaks (Ess l e) (SymbolConflict k i) h = absurd (none_there k h.1.name h.1.is_there)
  float_breaks (Ess l e) (LabelConflict i) h = absurd h
  float_breaks (Axiom l e) Statement h = absurd h
  float_breaks (Axiom l e) (Symbol k) h = absurd (none_there k h.1.name h.1.is_there)
  float_breaks (Axiom l e) (Twice j k) h = absurd h
  float_breaks (Axiom l e) (SymbolConflict k i) h = absurd (none_there k h.1.name h.1.is_there)
  float_breaks (Axiom l e) (LabelConflict i) h = absurd h
  float_breaks (Prove l e p) Statement h = absurd h
  float_breaks (Prove l e p) (Symbol k) h = absurd (none_there k h.1.name h.1.is_there)
  float_breaks (Prove l e p) (Twice j k) h = absurd h
  float_breaks (Prove l e p) (SymbolConflict k i) h = absurd (none_there k h.1.name h.1.is_there)
  float_breaks (Prove l e p) (LabelConflict i) h = absurd h

  -- a violation of a rule shows that the statement breaks it
  pub violation_breaks : (s : Stmt) (rule : Rule) (w : RuleViolation) → IsViolation S s rule w → keeps S s rule ≡ false
  violation_breaks s G1 Statement h = h
  violation_breaks s G1 (Symbol k) h = absurd h
  violation_breaks s G1 (Twice j k) h = absurd h
  violation_breaks s G1 (SymbolConflict k i) h = absurd h
  violation_breaks s G1 (LabelConflict i) h = absurd h
  violation_breaks s G2 Statement h = absurd h
  violation_breaks s G2 (Symbol k) h = absurd h
  violation_breaks s G2 (Twice j k) h =
      keeps_constants S s ∙ (ap (λ b. list_all (λ x. not (was_symbol S x || was_label S x)) (constants s) && b) (twice_repeats (constants s) j k h) ∙ and_none (list_all (λ x. not (was_symbol S x || was_label S x)) (constants s)))
  violation_breaks s G2 (SymbolConflict k i) h =
      keeps_constants S s
      ∙ ap (λ b. b && all_different (constants s)) (fails_at (λ x. not (was_symbol S x || was_label S x)) (constants s) k h.name h.is_there
      (ap not (named_is S h.name ∙ PassesAt-any S i (has_name_in name_role.LabelOrSymbol h.name) h.holds)))
  violation_breaks s G2 (LabelConflict i) h = absurd h
  violation_breaks s G3 Statement h = absurd h
  violation_breaks s G3 (Symbol k) h = absurd h
  violation_breaks s G3 (Twice j k) h =
      keeps_variables S s ∙ (ap (λ b. list_all (λ x. not (is_variable S x || is_constant S x || was_label S x)) (variables s) && b) (twice_repeats (variables s) j k h) ∙ and_none (list_all (λ x. not (is_variable S x || is_constant S x || was_label S x)) (variables s)))
  violation_breaks s G3 (SymbolConflict k i) h =
      keeps_variables S s
      ∙ ap (λ b. b && all_different (variables s)) (fails_at (λ x. not (is_variable S x || is_constant S x || was_label S x)) (variables s) k h.name h.is_there
      (ap not (old_variable h.name i h.holds)))
  violation_breaks s G3 (LabelConflict i) h = absurd h
  violation_breaks s G4 Statement h = absurd h
  violation_breaks s G4 (Symbol k) h = absurd h
  violation_breaks s G4 (Twice j k) h = absurd h
  violation_breaks s G4 (SymbolConflict k i) h = absurd h
  violation_breaks s G4 (LabelConflict i) h =
      let x = h.0 in
      keeps_label S s ∙ (ap (is_fresh_label S) h.1 ∙ ap not (or_comm (was_label S x) (was_symbol S x) ∙ (named_is S x ∙ PassesAt-any S i (has_name_in name_role.LabelOrSymbol x) h.2)))
  violation_breaks s G5 Statement h = absurd h
  violation_breaks s G5 (Symbol k) h =
      keeps_expr S s ∙ fails_at (λ x. is_constant S x || is_variable S x) (expr_of s) k h.name h.is_there (ap (λ b. b || is_variable S h.name) h.holds.0 ∙ h.holds.1)
  violation_breaks s G5 (Twice j k) h = absurd h
  violation_breaks s G5 (SymbolConflict k i) h = absurd h
  violation_breaks s G5 (LabelConflict i) h = absurd h
  violation_breaks s G6 Statement h = absurd h
  violation_breaks s G6 (Symbol k) h = keeps_first S s ∙ first_fails S (expr_of s) k h.1.name h.0 h.1.is_there h.1.holds
  violation_breaks s G6 (Twice j k) h = absurd h
  violation_breaks s G6 (SymbolConflict k i) h = absurd h
  violation_breaks s G6 (LabelConflict i) h = absurd h
  violation_breaks s G7 w h = float_breaks s w h
  violation_breaks s G8 Statement h = absurd h
  violation_breaks s G8 (Symbol k) h =
      keeps_disjoint S s ∙ (ap (λ b. all_different (disjoint_names s) && b) (fails_at (is_variable S) (disjoint_names s) k h.name h.is_there h.holds) ∙ and_none (all_different (disjoint_names s)))
  violation_breaks s G8 (Twice j k) h = keeps_disjoint S s ∙ ap (λ b. b && list_all (is_variable S) (disjoint_names s)) (twice_repeats (disjoint_names s) j k h)
  violation_breaks s G8 (SymbolConflict k i) h = absurd h
  violation_breaks s G8 (LabelConflict i) h = absurd h
  violation_breaks s G9 Statement h = absurd h
  violation_breaks s G9 (Symbol k) h =
      keeps_typed S s ∙ fails_at (λ x. not (is_variable S x) || has_float S x) (typed_expr s) k h.name h.is_there (ap (λ b. not b || has_float S h.name) h.holds.0 ∙ h.holds.1)
  violation_breaks s G9 (Twice j k) h = absurd h
  violation_breaks s G9 (SymbolConflict k i) h = absurd h
  violation_breaks s G9 (LabelConflict i) h = absurd h
  violation_breaks s G10 Statement h = h
  violation_breaks s G10 (Symbol k) h = absurd h
  violation_breaks s G10 (Twice j k) h = absurd h
  violation_breaks s G10 (SymbolConflict k i) h = absurd h
  violation_breaks s G10 (LabelConflict i) h = absurd h
  violation_breaks s Memory Statement h = absurd h
  violation_breaks s Memory (Symbol k) h = absurd h
  violation_breaks s Memory (Twice j k) h = absurd h
  violation_breaks s Memory (SymbolConflict k i) h = absurd h
  violation_breaks s Memory (LabelConflict i) h = absurd h
