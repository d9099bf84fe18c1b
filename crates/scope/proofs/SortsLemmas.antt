-- The result of a look-up of a symbol.
use Rattle.scope.proofs.Words.{◌≡◌, ℕ, ◌+◌, ◌==◌, Bool, true, false, not, ◌||◌, ◌&&◌, List, [], ◌∷◌, ◌++◌, length, Option, Some, None, is_some, refl, option_map, list_any, flat_map, sym, ◌∙◌, ap, arith, true≢false, take, ◌<◌, append_assoc, length-append, take_at, length_push, eqb-true, eq-eqb, false_from_ne_true, or-false, and-false, Name, name_eq, has_name, Stmt, Open, Close, Const, Var, Disj, Float, Ess, Axiom, Prove, Database, variables, constants, active, is_float_of, typed_by, is_variable, is_constant, has_float, was_symbol, was_label, was_variable, active_variables, typed_variables, all_different, code_or_len, codes_or_len, MatchesKind, IsSort, variable_sort, NameKind, Label, Constant, Variable, has_name-append, code_or_len-same, same_name, name_eq-comm}
use Rattle.scope.specs.declared.legal.Sort.TheVariants as sort
use Rattle.scope.proofs.NamesLemmas.{active-was}

-- ---- the active symbols, as lists of names

pub any-variables : (es : List (ℕ × Stmt)) (x : Name) → list_any (λ p. has_name x (variables p.1)) es ≡ has_name x (flat_map (λ p. variables p.1) es)
any-variables [] x = refl
any-variables (p ∷ es) x = ap (λ b. has_name x (variables p.1) || b) (any-variables es x) ∙ sym (has_name-append x (variables p.1) (flat_map (λ p. variables p.1) es))

pub is_variable-active : (S : Database) (x : Name) → is_variable S x ≡ has_name x (active_variables S)
is_variable-active S x = any-variables (active S) x

-- a `$f` gives a typecode to its variable, and no other statement gives one
types : (s : Stmt) (x : Name) → is_float_of x s ≡ has_name x (typed_by s)
types Open x = refl
types Close x = refl
types (Const names) x = refl
types (Var names) x = refl
types (Disj names) x = refl
types (Float label constant variable) x = sym (or-false (name_eq x variable))
types (Ess label expr) x = refl
types (Axiom label expr) x = refl
types (Prove label expr proof) x = refl

pub any-typed : (es : List (ℕ × Stmt)) (x : Name) → list_any (λ p. is_float_of x p.1) es ≡ has_name x (flat_map (λ p. typed_by p.1) es)
any-typed [] x = refl
any-typed (p ∷ es) x =
    ap (λ a. a || list_any (λ p. is_float_of x p.1) es) (types p.1 x)
    ∙ (ap (λ b. has_name x (typed_by p.1) || b) (any-typed es x) ∙ sym (has_name-append x (typed_by p.1) (flat_map (λ p. typed_by p.1) es)))

pub has_float-typed : (S : Database) (x : Name) → has_float S x ≡ has_name x (typed_variables S)
has_float-typed S x = any-typed (active S) x

-- a disjunction of four tests, with the two in the middle exchanged
pub or_swap : (a b c d : Bool) → ((a || b) || (c || d)) ≡ ((a || c) || (b || d))
or_swap true b c d = refl
or_swap false true true d = refl
or_swap false true false d = refl
or_swap false false c d = refl

pub was_symbol-either : (S : Database) (x : Name) → was_symbol S x ≡ (is_constant S x || was_variable S x)
was_symbol-either [] x = refl
was_symbol-either (s ∷ S) x =
    ap (λ b. (has_name x (constants s) || has_name x (variables s)) || b) (was_symbol-either S x)
    ∙ or_swap (has_name x (constants s)) (has_name x (variables s)) (is_constant S x) (was_variable S x)

-- ---- numbers found

-- a test for equality fails on different numbers
numbers_apart : (m n : ℕ) (b : Bool) → (m == n) ≡ b → (m ≡ n → ⊥) → b ≡ false
numbers_apart m n true e differ = absurd (differ (eqb-true m n e))
numbers_apart m n false e differ = refl

-- the number of a name is among those of some names exactly if the name is among them
pub numbers-has : (names : List Name) (x : Name) (xs : List Name) → has_name x names ≡ true → list_any (λ n. n == code_or_len names x) (codes_or_len names xs) ≡ has_name x xs
numbers-has names x [] h = refl
numbers-has names x (y ∷ xs) h = ap (λ b. b || list_any (λ n. n == code_or_len names x) (codes_or_len names xs)) (one (name_eq x y) refl) ∙ ap (λ r. name_eq x y || r) (numbers-has names x xs h)
  where
    one : (b : Bool) → name_eq x y ≡ b → (code_or_len names y == code_or_len names x) ≡ b
    one true e = eq-eqb (code_or_len names y) (code_or_len names x) (ap (code_or_len names) (sym (same_name x y e)))
    one false e = numbers_apart (code_or_len names y) (code_or_len names x) _ refl (λ k. true≢false (sym (code_or_len-same x y names h (sym k)) ∙ (name_eq-comm y x ∙ e)))

-- ---- sorts

-- a name that was never declared as a variable is not an active variable
not_active : (S : Database) (x : Name) → was_variable S x ≡ false → is_variable S x ≡ false
not_active S x h = false_from_ne_true (is_variable S x) (λ e. true≢false (sym (active-was 1 S x (sym (is_variable-active S x) ∙ e)) ∙ h))

pub constant-sort : (S : Database) (x : Name) → MatchesKind S x (Some Constant) → IsSort S x sort.Constant
constant-sort S x t =
    let no = not_active S x t.variable in
    record { constant = t.constant; variable = no; label = t.label; untyped = ap (λ b. not b || has_float S x) no }

pub label-sort : (S : Database) (x : Name) → MatchesKind S x (Some Label) → IsSort S x sort.Label
label-sort S x t =
    let no = not_active S x t.variable in
    record { constant = t.constant; variable = no; label = t.label; untyped = ap (λ b. not b || has_float S x) no }

pub no-sort : (S : Database) (x : Name) → MatchesKind S x None → IsSort S x sort.Other
no-sort S x t =
    let no = not_active S x t.variable in
    record { constant = t.constant; variable = no; label = t.label; untyped = ap (λ b. not b || has_float S x) no }

pub variable-sort : (S : Database) (x : Name) → MatchesKind S x (Some Variable) → IsSort S x (variable_sort (is_variable S x) (has_float S x))
variable-sort S x t = by (is_variable S x) (has_float S x) refl refl
  where
    by : (a b : Bool) → is_variable S x ≡ a → has_float S x ≡ b → IsSort S x (variable_sort a b)
    by true true p q = record { constant = t.constant; variable = p; label = t.label; untyped = ap (λ c. not c || has_float S x) p ∙ q }
    by true false p q = record { constant = t.constant; variable = p; label = t.label; untyped = ap (λ c. not c || has_float S x) p ∙ q }
    by false b p q = record { constant = t.constant; variable = p; label = t.label; untyped = ap (λ c. not c || has_float S x) p }

-- a name with no kind was never declared, and one with a kind was
pub fresh-kind : (S : Database) (x : Name) (k : Option NameKind) → MatchesKind S x k → not (is_some k) ≡ not (was_symbol S x || was_label S x)
fresh-kind S x None t = ap not (sym (ap (λ b. b || was_label S x) (was_symbol-either S x ∙ (ap (λ b. b || was_variable S x) t.constant ∙ t.variable)) ∙ t.label))
fresh-kind S x (Some Label) t = ap not (sym (ap (λ b. b || was_label S x) (was_symbol-either S x ∙ (ap (λ b. b || was_variable S x) t.constant ∙ t.variable)) ∙ t.label))
fresh-kind S x (Some Constant) t = ap not (sym (ap (λ b. b || was_label S x) (was_symbol-either S x ∙ ap (λ b. b || was_variable S x) t.constant)))
fresh-kind S x (Some Variable) t = ap not (sym (ap (λ b. b || was_label S x) (was_symbol-either S x ∙ (ap (λ b. b || was_variable S x) t.constant ∙ t.variable))))

-- ---- names that differ

pub all_different-append : (xs : List Name) (w : Name) → all_different (xs ++ w ∷ []) ≡ (all_different xs && not (has_name w xs))
all_different-append [] w = refl
all_different-append (x ∷ xs) w =
    ap (λ b. not b && all_different (xs ++ w ∷ [])) (has_name-append x xs (w ∷ []))
    ∙ (ap (λ b. not (has_name x xs || (name_eq x w || false)) && b) (all_different-append xs w)
    ∙ (ap (λ b. not (has_name x xs || (b || false)) && (all_different xs && not (has_name w xs))) (name_eq-comm x w)
    ∙ by (has_name x xs) (name_eq w x) (all_different xs) (has_name w xs)))
  where
    by : (a b c d : Bool) → (not (a || (b || false)) && (c && not d)) ≡ ((not a && c) && not (b || d))
    by true b c d = refl
    by false true true d = refl
    by false true false d = refl
    by false false c d = refl

pub all_different-front : (xs ys : List Name) → all_different xs ≡ false → all_different (xs ++ ys) ≡ false
all_different-front [] ys h = cc
all_different-front (x ∷ xs) ys h = by (has_name x xs) refl h (all_different-front xs ys)
  where
    by : (a : Bool) → has_name x xs ≡ a → (not a && all_different xs) ≡ false → (all_different xs ≡ false → all_different (xs ++ ys) ≡ false) → (not (has_name x (xs ++ ys)) && all_different (xs ++ ys)) ≡ false
    by true e h rest = ap (λ b. not b && all_different (xs ++ ys)) (has_name-append x xs ys ∙ ap (λ b. b || has_name x ys) e)
    by false e h rest = ap (λ b. not (has_name x (xs ++ ys)) && b) (rest h) ∙ and-false (not (has_name x (xs ++ ys)))

pub first-length : {A : Type 0} (xs rest ws : List A) (i : ℕ) → xs ++ rest ≡ ws → i + length rest ≡ length ws → length xs ≡ i
first-length xs rest ws i e h = omega (arith, length-append xs rest, ap length e)

pub first-more : {A : Type 0} (xs rest ws : List A) (w : A) (i : ℕ) → xs ++ (w ∷ rest) ≡ ws → length xs ≡ i → take (i + 1) ws ≡ xs ++ w ∷ []
first-more xs rest ws w i e h =
    ap (take (i + 1)) (sym e ∙ sym (append_assoc xs (w ∷ []) rest)) ∙ take_at (xs ++ w ∷ []) rest (i + 1) (length_push xs w ∙ ap (λ n. n + 1) h)

-- fewer than two names are all different
pub short_differ : (xs : List Name) → length xs < 2 → all_different xs ≡ true
short_differ [] h = refl
short_differ (x ∷ []) h = refl
short_differ (x ∷ y ∷ xs) h = absurd (omega arith)

-- a pair is found exactly if its first part is
pub some_second : {A B : Type 0} (r : Option (A × B)) → is_some r ≡ is_some (option_map (λ (p : A × B). p.1) r)
some_second None = refl
some_second (Some p) = refl
