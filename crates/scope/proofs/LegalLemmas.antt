-- Properties of a legal statement.
use Rattle.scope.proofs.Words.{◌≡◌, Bool, true, false, not, cond, ◌||◌, ◌&&◌, nat_lt, List, [], ◌∷◌, Option, Some, None, refl, list_all, ◌∙◌, ap, sym, and_parts, or_comm, and-true, not-not, same_Some, Name, Stmt, Open, Close, Const, Var, Disj, Float, Ess, Axiom, Prove, Database, is_variable, is_constant, was_symbol, was_label, has_float, label_of, count, is_open, is_close, all_different, broken_rule, IsSort, is_symbol_sort, is_constant_sort, is_untyped_sort, broken_by_sorts, Sort, Rule, G4, G5, G6, G7}

-- if no rule is broken, the first is kept, and the rest breaks none
first_rule : (b : Bool) (r : Rule) (rest : Option Rule) → cond (not b) (Some r) rest ≡ None → (b ≡ true) × (rest ≡ None)
first_rule true r rest h = (refl, h)
first_rule false r rest h = cc

pub legal-constants : (S : Database) (xs : List Name) → broken_rule S (Const xs) ≡ None
    → (list_all (λ x. not (was_symbol S x || was_label S x)) xs ≡ true) × (all_different xs ≡ true)
legal-constants S xs h = and_parts _ _ (first_rule _ _ _ (first_rule _ _ _ h).1).0

pub legal-variables : (S : Database) (xs : List Name) → broken_rule S (Var xs) ≡ None
    → (list_all (λ x. not (is_variable S x || is_constant S x || was_label S x)) xs ≡ true) × (all_different xs ≡ true)
legal-variables S xs h = and_parts _ _ (first_rule _ _ _ h).0

pub legal-close : (S : Database) → broken_rule S Close ≡ None → nat_lt (count is_close S) (count is_open S) ≡ true
legal-close S h = (first_rule _ _ _ h).0

-- a name that is neither a label nor a symbol, with the two tests exchanged
fresh : (S : Database) (l : Name) → not (was_label S l || was_symbol S l) ≡ true → not (was_symbol S l || was_label S l) ≡ true
fresh S l h = ap not (or_comm (was_symbol S l) (was_label S l)) ∙ h

pub legal-label : (S : Database) (s : Stmt) (l : Name) → label_of s ≡ Some l → broken_rule S s ≡ None → not (was_symbol S l || was_label S l) ≡ true
legal-label S Open l e h = cc
legal-label S Close l e h = cc
legal-label S (Const xs) l e h = cc
legal-label S (Var xs) l e h = cc
legal-label S (Disj xs) l e h = cc
legal-label S (Float label constant variable) l e h = ap (λ x. not (was_symbol S x || was_label S x)) (sym (same_Some label l e)) ∙ fresh S label (first_rule _ _ _ h).0
legal-label S (Ess label expr) l e h = ap (λ x. not (was_symbol S x || was_label S x)) (sym (same_Some label l e)) ∙ fresh S label (first_rule _ _ _ h).0
legal-label S (Axiom label expr) l e h = ap (λ x. not (was_symbol S x || was_label S x)) (sym (same_Some label l e)) ∙ fresh S label (first_rule _ _ _ h).0
legal-label S (Prove label expr proof) l e h = ap (λ x. not (was_symbol S x || was_label S x)) (sym (same_Some label l e)) ∙ fresh S label (first_rule _ _ _ h).0

pub legal-float : (S : Database) (label constant variable : Name) → broken_rule S (Float label constant variable) ≡ None → (is_variable S variable ≡ true) × (not (has_float S variable) ≡ true)
legal-float S label constant variable h =
    and_parts (is_variable S variable) (not (has_float S variable))
    (by (not (was_label S label || was_symbol S label)) (list_all (λ x. is_constant S x || is_variable S x) (constant ∷ variable ∷ [])) (is_constant S constant) (is_variable S variable && not (has_float S variable)) h)
  where
    by : (a b c d : Bool) → cond (not a) (Some G4) (cond (not b) (Some G5) (cond (not c) (Some G6) (cond (not d) (Some G7) None))) ≡ None → d ≡ true
    by a b c true h = refl
    by true true true false h = cc
    by true true false false h = cc
    by true false c false h = cc
    by false b c false h = cc

-- a `$f` with a new label breaks the rule that the sorts of its two symbols give
pub float-sorts : (S : Database) (l c v : Name) (p q : Sort) → not (was_symbol S l || was_label S l) ≡ true → IsSort S c p → IsSort S v q → broken_rule S (Float l c v) ≡ broken_by_sorts p q
float-sorts S l c v p q new first second =
    (λ j. cond (not (unused j)) (Some G4)
    (cond (not ((first.constant j || first.variable j) && ((second.constant j || second.variable j) && true))) (Some G5)
    (cond (not (first.constant j)) (Some G6) (cond (not (untyped j)) (Some G7) None))))
    ∙ ap (λ b. cond (not (is_symbol_sort p && b)) (Some G5) (cond (not (is_constant_sort p)) (Some G6) (cond (not (is_untyped_sort q)) (Some G7) None))) (and-true (is_symbol_sort q))
  where
    unused : not (was_label S l || was_symbol S l) ≡ true
    unused = ap not (or_comm (was_label S l) (was_symbol S l)) ∙ new

    turned : (a b : Bool) → (a && not b) ≡ not (not a || b)
    turned true b = refl
    turned false b = refl

    untyped : (is_variable S v && not (has_float S v)) ≡ is_untyped_sort q
    untyped = turned (is_variable S v) (has_float S v) ∙ (ap not second.untyped ∙ not-not (is_untyped_sort q))
