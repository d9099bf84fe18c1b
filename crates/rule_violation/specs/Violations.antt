-- The violations of each of the ten rules.
-- Source: Metamath, 4.2; the rules are those of the crate `scope`.
-- The code searches for a violation; under G2, G3 and G8 it seeks a repeated symbol last. Here a
-- violation is defined without a search.
use Rattle.std.specs.Prelude.{◌≡◌, ℕ, ◌<◌, Bool, true, false, ◌⊎◌, List, [], ◌∷◌, Option, Some, slice_get, IsTrue, IsFalse, MatchOption}
use Rattle.mm_lex.specs.Alphabet.{Name}
use Rattle.mm_read.specs.declared.stmt.Stmt.{Stmt}
use Rattle.mm_read.specs.declared.stmt.Stmt.TheVariants.{Float, Ess, Axiom, Prove}
use Rattle.mm_read.specs.Statements.{Database, Expr}
use Rattle.scope.specs.declared.rule.Rule.{Rule}
use Rattle.scope.specs.declared.rule.Rule.TheVariants.{G1, G2, G3, G4, G5, G6, G7, G8, G9, G10}
use Rattle.scope.specs.Active.{constants, variables, disjoint_names, expr_of, label_of, is_constant, is_variable, has_float}
use Rattle.scope.specs.Legal.{keeps}
use Rattle.rule_violation.specs.declared.search.NameRole.TheVariants as name_role
use Rattle.rule_violation.specs.declared.violation.RuleViolation.{RuleViolation}
use Rattle.rule_violation.specs.declared.violation.RuleViolation.TheVariants.{Statement, Symbol, Twice, SymbolConflict, LabelConflict}
use Rattle.rule_violation.specs.Search.{has_name_in, PassesAt, IsActiveAt}

-- there is a name at the index, and it has the property
pub record HoldsAt (names : List Name) (index : ℕ) (P : Name → Type 0) : Type 0 where
  pub name : Name
  pub is_there : slice_get names index ≡ Some name
  pub holds : P name

-- the violation is a symbol that passes the test
abbrev pub IsSymbolViolation : List Name → (Name → Bool) → RuleViolation → Type 0
IsSymbolViolation names test (Symbol k) = HoldsAt names k (λ x. IsTrue (test x))
IsSymbolViolation names test violation = ⊥

-- the violation is the label x, with an earlier statement that has it as its label or declares it
-- as a symbol
abbrev pub IsLabelConflict : Database → Name → RuleViolation → Type 0
IsLabelConflict S x (LabelConflict i) = PassesAt S i (has_name_in name_role.LabelOrSymbol x)
IsLabelConflict S x violation = ⊥

-- the same symbol is at both indexes
abbrev pub IsTwice : List Name → ℕ → ℕ → Type 0
IsTwice names first second = (first < second) × HoldsAt names second (λ x. slice_get names first ≡ Some x)

-- the violation is a name that occurs twice
abbrev pub IsRepeated : List Name → RuleViolation → Type 0
IsRepeated names (Twice first second) = IsTwice names first second
IsRepeated names violation = ⊥

-- the violation is a first symbol x that is not a constant
abbrev pub IsConstantViolation : Database → Name → RuleViolation → Type 0
IsConstantViolation S x (Symbol k) = (k ≡ 0) × IsFalse (is_constant S x)
IsConstantViolation S x violation = ⊥

-- the violation is the first of the names, which is not a constant
abbrev pub IsFirstNotConstant : Database → List Name → RuleViolation → Type 0
IsFirstNotConstant S names (Symbol k) = (k ≡ 0) × HoldsAt names k (λ x. IsFalse (is_constant S x))
IsFirstNotConstant S names violation = ⊥

-- the expression of a `$e`, `$a` or `$p`, whose variables need an active `$f`
abbrev pub typed_expr : Stmt → Expr
typed_expr (Ess label expr) = expr
typed_expr (Axiom label expr) = expr
typed_expr (Prove label expr proof) = expr
typed_expr s = []

-- the symbols of a `$f`
abbrev pub float_expr : Stmt → Expr
float_expr (Float label constant variable) = constant ∷ variable ∷ []
float_expr s = []

-- the violation is one by which the statement breaks the rule after S
abbrev pub IsViolation : Database → Stmt → Rule → RuleViolation → Type 0
-- a `$c` inside a block, or a `$}` that closes none
IsViolation S s G1 Statement = keeps S s G1 ≡ false
IsViolation S s G10 Statement = keeps S s G10 ≡ false
-- a symbol of the `$c` that is an earlier label or was declared before (`SymbolConflict`: its
-- index, and the position of the earlier statement), or one that occurs twice (`Twice`: both
-- indexes)
IsViolation S s G2 (SymbolConflict k i) = HoldsAt (constants s) k (λ x. PassesAt S i (has_name_in name_role.LabelOrSymbol x))
IsViolation S s G2 (Twice j k) = IsTwice (constants s) j k
-- a symbol of the `$v`, with an earlier statement that has it as its label, declares it as a
-- constant, or is active and declares it as a variable; or a symbol that occurs twice
IsViolation S s G3 (SymbolConflict k i) = HoldsAt (variables s) k (λ x. PassesAt S i (has_name_in name_role.LabelOrConstant x) ⊎ IsActiveAt S i (has_name_in name_role.DeclaredVariable x))
IsViolation S s G3 (Twice j k) = IsTwice (variables s) j k
-- the label, with an earlier statement that has it as its label or declares it as a symbol
IsViolation S s G4 (LabelConflict i) = (x : Name) × (label_of s ≡ Some x) × PassesAt S i (has_name_in name_role.LabelOrSymbol x)
-- a symbol that is neither a constant nor an active variable
IsViolation S s G5 (Symbol k) = HoldsAt (expr_of s) k (λ x. IsFalse (is_constant S x) × IsFalse (is_variable S x))
-- the first symbol, which is not a constant
IsViolation S s G6 (Symbol k) = (k ≡ 0) × HoldsAt (expr_of s) k (λ x. IsFalse (is_constant S x))
-- the second symbol of a `$f`: it is not an active variable (`Symbol`), or it has an active `$f`,
-- which is the earlier statement (`SymbolConflict`)
IsViolation S s G7 (Symbol k) = (k ≡ 1) × HoldsAt (float_expr s) k (λ x. IsFalse (is_variable S x))
IsViolation S s G7 (SymbolConflict k i) = (k ≡ 1) × HoldsAt (float_expr s) k (λ x. IsActiveAt S i (has_name_in name_role.FloatVariable x))
-- a symbol of a `$d` that is not an active variable, or that occurs twice
IsViolation S s G8 (Symbol k) = HoldsAt (disjoint_names s) k (λ x. IsFalse (is_variable S x))
IsViolation S s G8 (Twice j k) = IsTwice (disjoint_names s) j k
-- a variable that has no active `$f`
IsViolation S s G9 (Symbol k) = HoldsAt (typed_expr s) k (λ x. IsTrue (is_variable S x) × IsFalse (has_float S x))
IsViolation S s rule violation = ⊥

-- what is found for a rule: nothing exactly if the statement keeps the rule after S, else a
-- violation of it. Each of G1 to G10 can be broken; every statement keeps `Memory`, which is no rule
abbrev pub IsViolationIfBroken : Database → Stmt → Rule → Option RuleViolation → Type 0
IsViolationIfBroken S s rule found = MatchOption found (keeps S s rule ≡ true) (IsViolation S s rule)
