-- The ten rules G1 to G10 that a legal statement keeps after the earlier ones.
-- Source: Metamath, 4.2 (declarations, hypotheses, assertions, scoping) and appendix E; the
-- numbering is this project's.
-- The code looks each name up once and stops at the least rule broken; here each rule is one test.
use Rattle.std.specs.Prelude.{◌≡◌, ℕ, ◌+◌, Bool, true, not, ◌&&◌, ◌||◌, nat_lt, if◌then◌else◌, List, [], ◌∷◌, ◌++◌, find, Option, Some, None}
use Rattle.scope.specs.Words.{list_all, Name, has_name, Stmt, Close, Const, Disj, Float, Ess, Axiom, Prove, Expr, Database}
use Rattle.scope.specs.declared.rule.Rule.{Rule}
use Rattle.scope.specs.declared.rule.Rule.TheVariants.{G1, G2, G3, G4, G5, G6, G7, G8, G9, G10}
use Rattle.scope.specs.Active.{constants, variables, label_of, expr_of, count, is_open, is_close, is_closed, is_variable, is_constant, was_symbol, was_label, has_float}

-- the names are distinct
abbrev pub all_different : List Name → Bool
all_different [] = true
all_different (x ∷ names) = not (has_name x names) && all_different names

abbrev pub starts_with_constant : Database → Expr → Bool
starts_with_constant S [] = true
starts_with_constant S (x ∷ expr) = is_constant S x

-- the label, if there is one, was never used as a label and never declared as a symbol
abbrev pub is_fresh_label : Database → Option Name → Bool
is_fresh_label S None = true
is_fresh_label S (Some x) = not (was_label S x || was_symbol S x)

-- each variable of the expression has an active `$f`
abbrev pub are_typed : Database → Expr → Bool
are_typed S expr = list_all (λ x. not (is_variable S x) || has_float S x) expr

-- whether the statement keeps the rule, as the next one after S; it keeps a rule that does not
-- concern it
abbrev pub keeps : Database → Stmt → Rule → Bool
keeps S (Const names) G1 = is_closed S
keeps S s G2 = list_all (λ x. not (was_symbol S x || was_label S x)) (constants s) && all_different (constants s)
keeps S s G3 = list_all (λ x. not (is_variable S x || is_constant S x || was_label S x)) (variables s) && all_different (variables s)
keeps S s G4 = is_fresh_label S (label_of s)
keeps S s G5 = list_all (λ x. is_constant S x || is_variable S x) (expr_of s)
keeps S s G6 = starts_with_constant S (expr_of s)
keeps S (Float label constant variable) G7 = is_variable S variable && not (has_float S variable)
keeps S (Disj names) G8 = all_different names && list_all (is_variable S) names
keeps S (Ess label expr) G9 = are_typed S expr
keeps S (Axiom label expr) G9 = are_typed S expr
keeps S (Prove label expr proof) G9 = are_typed S expr
keeps S Close G10 = nat_lt (count is_close S) (count is_open S)
keeps S s rule = true

-- the rules, the least first
abbrev pub all_rules : List Rule
all_rules = G1 ∷ G2 ∷ G3 ∷ G4 ∷ G5 ∷ G6 ∷ G7 ∷ G8 ∷ G9 ∷ G10 ∷ []

-- the least rule that the statement breaks, or `None` if it keeps all
abbrev pub broken_rule : Database → Stmt → Option Rule
broken_rule S s = find (λ rule. not (keeps S s rule)) all_rules

abbrev pub IsLegal : Database → Stmt → Type 0
IsLegal S s = broken_rule S s ≡ None

-- the rule that the end of the text breaks if a block is open
abbrev pub end_rule : Database → Option Rule
end_rule S = if is_closed S then None else Some G10

-- the rule, if there is one, with the number of the statement that breaks it
abbrev pub numbered : ℕ → Option Rule → Option (ℕ × Rule)
numbered at None = None
numbered at (Some rule) = Some (at, rule)

-- the rule, if there is one, with the number of its statement; else what later statements break
abbrev pub or_later : ℕ → Option Rule → Option (ℕ × Rule) → Option (ℕ × Rule)
or_later at None later = later
or_later at (Some rule) later = Some (at, rule)

-- the number, counted from `at`, of the first of the statements T after S that breaks a rule, and
-- the least rule that it breaks; an open block at the end counts as one more statement
abbrev pub first_broken : ℕ → Database → Database → Option (ℕ × Rule)
first_broken at S [] = numbered at (end_rule S)
first_broken at S (s ∷ T) = or_later at (broken_rule S s) (first_broken (at + 1) (S ++ s ∷ []) T)

-- each statement keeps the rules, and every block is closed at the end
abbrev pub AllLegal : Database → Type 0
AllLegal S = first_broken 1 [] S ≡ None
