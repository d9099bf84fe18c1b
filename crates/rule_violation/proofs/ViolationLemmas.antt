-- From the results of the searches to a violation of each rule.
use Rattle.rule_violation.proofs.Words.{◌≡◌, ℕ, Bool, true, false, not, ◌&&◌, ◌||◌, List, [], ◌∷◌, refl, sym, ◌∙◌, ap, subst, Option, Some, None, MatchOption, IsTrue, true≢false, slice_get, IfOk, Result, IfOk-weaker, Rule, SymbolFault, list_any, list_all, and_from, and_parts, or_parts, not-true, or_assoc, or_comm, not-not, or_swap, Name, has_name, Stmt, Open, Close, Const, Var, Disj, Float, Ess, Axiom, Prove, Database, Expr, G2, G3, G4, G5, G6, G7, G8, G9, constants, variables, label_of, has_label, expr_of, is_constant, is_variable, has_float, was_symbol, was_label, keeps, all_different, is_fresh_label, starts_with_constant, are_typed, RuleViolation, Statement, Symbol, Twice, SymbolConflict, LabelConflict, has_name_in, has_fault, IsViolation, IsViolationIfBroken, IsFirstNotConstant, IsConstantViolation, HoldsAt, IsTwice, IsRepeated, IsSymbolViolation, IsLabelConflict, typed_expr}
use Rattle.rule_violation.specs.declared.search.NameRole.TheVariants as name_role
use Rattle.rule_violation.specs.declared.symbol_search.SymbolFault.TheVariants as fault

-- ---- lists and tests

-- if no element fails a test, each passes it
none_all : {A : Type 0} (t p : A → Bool) → ((x : A) → p x ≡ not (t x)) → (xs : List A) → list_any t xs ≡ false → list_all p xs ≡ true
none_all t p same [] h = refl
none_all t p same (x ∷ xs) h = by (t x) refl (list_any t xs) refl (none_all t p same xs)
  where
    by : (a : Bool) → t x ≡ a → (b : Bool) → list_any t xs ≡ b → (list_any t xs ≡ false → list_all p xs ≡ true) → (p x && list_all p xs) ≡ true
    by true e b f rest = absurd (true≢false (sym (ap (λ y. y || list_any t xs) e) ∙ h))
    by false e true f rest = absurd (true≢false (sym (ap (λ y. y || list_any t xs) e ∙ f) ∙ h))
    by false e false f rest = ap (λ y. y && list_all p xs) (same x ∙ ap not e) ∙ rest f

-- an element passes one test or an element passes the other exactly if an element passes either
any_or : {A : Type 0} (p q r : A → Bool) → ((x : A) → r x ≡ (p x || q x)) → (xs : List A) → (list_any p xs || list_any q xs) ≡ list_any r xs
any_or p q r same [] = refl
any_or p q r same (x ∷ xs) = or_swap (p x) (list_any p xs) (q x) (list_any q xs) ∙ (ap (λ b. b || (list_any p xs || list_any q xs)) (sym (same x)) ∙ ap (λ b. r x || b) (any_or p q r same xs))

-- a name was a symbol or a label exactly if a statement declares it or has it as its label
pub named_is : (S : Database) (x : Name) → (was_symbol S x || was_label S x) ≡ list_any (has_name_in name_role.LabelOrSymbol x) S
named_is S x = any_or (λ s. has_name x (constants s) || has_name x (variables s)) (λ s. has_label x (label_of s)) (has_name_in name_role.LabelOrSymbol x) (λ s. or_comm (has_label x (label_of s)) (has_name x (constants s) || has_name x (variables s))) S

-- .. and it is a constant or was a label exactly if a `$c` declares it or a statement has it as its
-- label
pub fixed_is : (S : Database) (x : Name) → (is_constant S x || was_label S x) ≡ list_any (has_name_in name_role.LabelOrConstant x) S
fixed_is S x = any_or (λ s. has_name x (constants s)) (λ s. has_label x (label_of s)) (has_name_in name_role.LabelOrConstant x) (λ s. or_comm (has_label x (label_of s)) (has_name x (constants s))) S

-- ---- violations

-- what a search finds is a violation, and if it finds nothing the rule is kept
pub found_violation : (Q K : Type 0) (R P : RuleViolation → Type 0) → (Q → K) → ((w : RuleViolation) → R w → P w) → (found : Option RuleViolation) → MatchOption found Q R → MatchOption found K P
found_violation Q K R P not on None told = not told
found_violation Q K R P not on (Some w) told = on w told

-- the violation by a symbol that occurs twice
by_twice : {E : Type 0} (names : List Name) (r : Result (Option RuleViolation) E) (K : Type 0) (P : RuleViolation → Type 0) → (all_different names ≡ true → K) → ((j k : ℕ) → IsTwice names j k → P (Twice j k))
    → IfOk r (λ found. MatchOption found (all_different names ≡ true) (IsRepeated names)) → IfOk r (λ found. MatchOption found K P)
by_twice names r K P not is = IfOk-weaker r _ _ (found_violation (all_different names ≡ true) K (IsRepeated names) P not on)
  where
    on : (w : RuleViolation) → IsRepeated names w → P w
    on Statement h = absurd h
    on (Symbol k) h = absurd h
    on (Twice j k) h = is j k h
    on (SymbolConflict k i) h = absurd h
    on (LabelConflict i) h = absurd h

-- the violation by a symbol that fails a test, if the rule requires that all symbols pass it
symbol_violation : (S : Database) (s : Stmt) (rule : Rule) (t : SymbolFault) (pass : Name → Bool) (expr : Expr) (found : Option RuleViolation)
    → keeps S s rule ≡ list_all pass expr → ((x : Name) → pass x ≡ not (has_fault S t x)) → ((k : ℕ) → HoldsAt expr k (λ x. IsTrue (has_fault S t x)) → IsViolation S s rule (Symbol k))
    → MatchOption found (list_any (has_fault S t) expr ≡ false) (IsSymbolViolation expr (has_fault S t))
    → IsViolationIfBroken S s rule found
symbol_violation S s rule t pass expr found keeps_is same is told =
    found_violation (list_any (has_fault S t) expr ≡ false) (keeps S s rule ≡ true) (IsSymbolViolation expr (has_fault S t)) (IsViolation S s rule) none on found told
  where
    none : list_any (has_fault S t) expr ≡ false → keeps S s rule ≡ true
    none h = keeps_is ∙ none_all (has_fault S t) pass same expr h

    on : (w : RuleViolation) → IsSymbolViolation expr (has_fault S t) w → IsViolation S s rule w
    on Statement h = absurd h
    on (Symbol k) h = is k h
    on (Twice j k) h = absurd h
    on (SymbolConflict k i) h = absurd h
    on (LabelConflict i) h = absurd h

-- G2, if no constant is an earlier name: a constant occurs twice
pub G2_twice : {E : Type 0} (S : Database) (names : List Name) (r : Result (Option RuleViolation) E) → list_any (has_fault S fault.AlreadyUsed) names ≡ false
    → IfOk r (λ found. MatchOption found (all_different names ≡ true) (IsRepeated names))
    → IfOk r (IsViolationIfBroken S (Const names) G2)
G2_twice S names r none told =
    by_twice names r (keeps S (Const names) G2 ≡ true) (IsViolation S (Const names) G2)
    (λ differ. and_from _ _ (none_all (has_fault S fault.AlreadyUsed) (λ x. not (was_symbol S x || was_label S x)) (λ x. ap not (named_is S x)) names none) differ) (λ j k h. h) told

-- G3, if no variable is an earlier constant or label or an active variable: a variable occurs twice
pub G3_twice : {E : Type 0} (S : Database) (names : List Name) (r : Result (Option RuleViolation) E) → list_any (has_fault S fault.NotNewVariable) names ≡ false
    → IfOk r (λ found. MatchOption found (all_different names ≡ true) (IsRepeated names))
    → IfOk r (IsViolationIfBroken S (Var names) G3)
G3_twice S names r none told =
    by_twice names r (keeps S (Var names) G3 ≡ true) (IsViolation S (Var names) G3)
    (λ differ. and_from _ _ (none_all (has_fault S fault.NotNewVariable) (λ x. not (is_variable S x || is_constant S x || was_label S x)) same names none) differ) (λ j k h. h) told
  where
    same : (x : Name) → not (is_variable S x || is_constant S x || was_label S x) ≡ not (has_fault S fault.NotNewVariable x)
    same x = ap not (or_assoc (is_variable S x) (is_constant S x) (was_label S x) ∙ ap (λ b. is_variable S x || b) (fixed_is S x))

-- G8, if each symbol is an active variable: a variable occurs twice
pub G8_twice : {E : Type 0} (S : Database) (names : List Name) (r : Result (Option RuleViolation) E) → list_any (has_fault S fault.NotActiveVariable) names ≡ false
    → IfOk r (λ found. MatchOption found (all_different names ≡ true) (IsRepeated names))
    → IfOk r (IsViolationIfBroken S (Disj names) G8)
G8_twice S names r none told =
    by_twice names r (keeps S (Disj names) G8 ≡ true) (IsViolation S (Disj names) G8)
    (λ differ. and_from _ _ differ (none_all (has_fault S fault.NotActiveVariable) (is_variable S) (λ x. sym (not-not (is_variable S x))) names none)) (λ j k h. h) told

-- G4 looks only at the label
pub keeps_label : (S : Database) (s : Stmt) → keeps S s G4 ≡ is_fresh_label S (label_of s)
keeps_label S Open = refl
keeps_label S Close = refl
keeps_label S (Const x) = refl
keeps_label S (Var x) = refl
keeps_label S (Disj x) = refl
keeps_label S (Float l c v) = refl
keeps_label S (Ess l e) = refl
keeps_label S (Axiom l e) = refl
keeps_label S (Prove l e p) = refl

-- the violation of G4 is by an earlier statement that has the label or declares it as a symbol
pub G4_is : (S : Database) (s : Stmt) (x : Name) (r : Option RuleViolation) → label_of s ≡ Some x → MatchOption r (list_any (has_name_in name_role.LabelOrSymbol x) S ≡ false) (IsLabelConflict S x)
    → IsViolationIfBroken S s G4 r
G4_is S s x r is told =
    found_violation (list_any (has_name_in name_role.LabelOrSymbol x) S ≡ false) (keeps S s G4 ≡ true) (IsLabelConflict S x) (IsViolation S s G4)
    (λ none. keeps_label S s ∙ (ap (is_fresh_label S) is ∙ ap not (or_comm (was_label S x) (was_symbol S x) ∙ (named_is S x ∙ none)))) on r told
  where
    on : (w : RuleViolation) → IsLabelConflict S x w → IsViolation S s G4 w
    on Statement h = absurd h
    on (Symbol k) h = absurd h
    on (Twice j k) h = absurd h
    on (SymbolConflict k i) h = absurd h
    on (LabelConflict i) h = (x, is, h)

-- G5 looks only at the expression
pub keeps_expr : (S : Database) (s : Stmt) → keeps S s G5 ≡ list_all (λ x. is_constant S x || is_variable S x) (expr_of s)
keeps_expr S Open = refl
keeps_expr S Close = refl
keeps_expr S (Const x) = refl
keeps_expr S (Var x) = refl
keeps_expr S (Disj x) = refl
keeps_expr S (Float l c v) = refl
keeps_expr S (Ess l e) = refl
keeps_expr S (Axiom l e) = refl
keeps_expr S (Prove l e p) = refl

-- the violation of G5 is by a symbol that is neither a constant nor an active variable
pub G5_found : (S : Database) (s : Stmt) (expr : Expr) (found : Option RuleViolation) → expr_of s ≡ expr
    → MatchOption found (list_any (has_fault S fault.Unknown) expr ≡ false) (IsSymbolViolation expr (has_fault S fault.Unknown))
    → IsViolationIfBroken S s G5 found
G5_found S s expr found is =
    symbol_violation S s G5 fault.Unknown (λ x. is_constant S x || is_variable S x) expr found (keeps_expr S s ∙ ap (list_all (λ x. is_constant S x || is_variable S x)) is)
    (λ x. sym (not-not (is_constant S x || is_variable S x)))
    (λ k h. record { name = h.name; is_there = ap (λ e. slice_get e k) is ∙ h.is_there; holds = or_parts (is_constant S h.name) (is_variable S h.name) (not-true (is_constant S h.name || is_variable S h.name) h.holds) })

pub G5_is : {E : Type 0} (S : Database) (s : Stmt) (expr : Expr) (r : Result (Option RuleViolation) E) → expr_of s ≡ expr
    → IfOk r (λ found. MatchOption found (list_any (has_fault S fault.Unknown) expr ≡ false) (IsSymbolViolation expr (has_fault S fault.Unknown)))
    → IfOk r (IsViolationIfBroken S s G5)
G5_is S s expr r is = IfOk-weaker r _ _ (λ found. G5_found S s expr found is)

-- G6 looks only at the expression
pub keeps_first : (S : Database) (s : Stmt) → keeps S s G6 ≡ starts_with_constant S (expr_of s)
keeps_first S Open = refl
keeps_first S Close = refl
keeps_first S (Const x) = refl
keeps_first S (Var x) = refl
keeps_first S (Disj x) = refl
keeps_first S (Float l c v) = refl
keeps_first S (Ess l e) = refl
keeps_first S (Axiom l e) = refl
keeps_first S (Prove l e p) = refl

-- the violation of G6 is by the first symbol of the expression, which is not a constant
pub G6_is : (S : Database) (s : Stmt) (expr : Expr) (found : Option RuleViolation) → expr_of s ≡ expr
    → MatchOption found (starts_with_constant S expr ≡ true) (IsFirstNotConstant S expr) → IsViolationIfBroken S s G6 found
G6_is S s expr found is told =
    found_violation (starts_with_constant S expr ≡ true) (keeps S s G6 ≡ true) (IsFirstNotConstant S expr) (IsViolation S s G6)
    (λ starts. keeps_first S s ∙ (ap (starts_with_constant S) is ∙ starts)) on found told
  where
    on : (w : RuleViolation) → IsFirstNotConstant S expr w → IsViolation S s G6 w
    on Statement h = absurd h
    on (Symbol k) h = (h.0, record { name = h.1.name; is_there = ap (λ e. slice_get e k) is ∙ h.1.is_there; holds = h.1.holds })
    on (Twice j k) h = absurd h
    on (SymbolConflict k i) h = absurd h
    on (LabelConflict i) h = absurd h

-- the first symbol of a list is not a constant
pub first_is_not : (S : Database) (x : Name) (names rest : List Name) (found : Option RuleViolation) → names ≡ x ∷ rest
    → MatchOption found (is_constant S x ≡ true) (IsConstantViolation S x)
    → MatchOption found (starts_with_constant S names ≡ true) (IsFirstNotConstant S names)
first_is_not S x names rest found is told =
    found_violation (is_constant S x ≡ true) (starts_with_constant S names ≡ true) (IsConstantViolation S x) (IsFirstNotConstant S names)
    (λ known. ap (starts_with_constant S) is ∙ known) on found told
  where
    on : (w : RuleViolation) → IsConstantViolation S x w → IsFirstNotConstant S names w
    on Statement h = absurd h
    on (Symbol k) h = (h.0, record { name = x; is_there = ap (slice_get names) h.0 ∙ ap (λ e. slice_get e 0) is; holds = h.1 })
    on (Twice j k) h = absurd h
    on (SymbolConflict k i) h = absurd h
    on (LabelConflict i) h = absurd h

-- a `$f` of an active variable that has no active `$f` keeps G7
pub G7_kept : (S : Database) (s : Stmt) (label constant variable : Name) → s ≡ Float label constant variable → is_variable S variable ≡ true → has_float S variable ≡ false → keeps S s G7 ≡ true
G7_kept S s label constant variable is known none =
    ap (λ r. keeps S r G7) is ∙ (ap (λ b. b && not (has_float S variable)) known ∙ ap not none)

-- a symbol that is neither a constant nor an active variable, at its place ..
pub unknown_at : (S : Database) (names : List Name) (k : ℕ) (x : Name) → slice_get names k ≡ Some x → (is_constant S x || is_variable S x) ≡ false → IsSymbolViolation names (has_fault S fault.Unknown) (Symbol k)
unknown_at S names k x at unknown = record { name = x; is_there = at; holds = ap not unknown }

-- .. and two symbols that are
pub known_both : (S : Database) (x y : Name) → (is_constant S x || is_variable S x) ≡ true → (is_constant S y || is_variable S y) ≡ true → list_any (has_fault S fault.Unknown) (x ∷ y ∷ []) ≡ false
known_both S x y first second =
    ap (λ b. not b || (not (is_constant S y || is_variable S y) || false)) first ∙ ap (λ b. not b || false) second

-- G9 looks only at the expression of a `$e`, `$a` or `$p`
pub keeps_typed : (S : Database) (s : Stmt) → keeps S s G9 ≡ are_typed S (typed_expr s)
keeps_typed S Open = refl
keeps_typed S Close = refl
keeps_typed S (Const x) = refl
keeps_typed S (Var x) = refl
keeps_typed S (Disj x) = refl
keeps_typed S (Float l c v) = refl
keeps_typed S (Ess l e) = refl
keeps_typed S (Axiom l e) = refl
keeps_typed S (Prove l e p) = refl

-- the violation of G9 is by a variable that has no active `$f`
G9_found : (S : Database) (s : Stmt) (expr : Expr) (found : Option RuleViolation) → typed_expr s ≡ expr
    → MatchOption found (list_any (has_fault S fault.Untyped) expr ≡ false) (IsSymbolViolation expr (has_fault S fault.Untyped))
    → IsViolationIfBroken S s G9 found
G9_found S s expr found is =
    symbol_violation S s G9 fault.Untyped (λ x. not (is_variable S x) || has_float S x) expr found (keeps_typed S s ∙ ap (are_typed S) is)
    (λ x. not_and (is_variable S x) (has_float S x))
    (λ k h. record { name = h.name; is_there = ap (λ e. slice_get e k) is ∙ h.is_there; holds = let t = and_parts (is_variable S h.name) (not (has_float S h.name)) h.holds in (t.0, not-true (has_float S h.name) t.1) })
  where
    not_and : (a b : Bool) → (not a || b) ≡ not (a && not b)
    not_and true true = refl
    not_and true false = refl
    not_and false b = refl

pub G9_is : {E : Type 0} (S : Database) (s : Stmt) (expr : Expr) (r : Result (Option RuleViolation) E) → typed_expr s ≡ expr
    → IfOk r (λ found. MatchOption found (list_any (has_fault S fault.Untyped) expr ≡ false) (IsSymbolViolation expr (has_fault S fault.Untyped)))
    → IfOk r (IsViolationIfBroken S s G9)
G9_is S s expr r is = IfOk-weaker r _ _ (λ found. G9_found S s expr found is)
