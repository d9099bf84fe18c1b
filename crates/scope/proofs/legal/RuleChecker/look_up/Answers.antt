use Rattle.scope.proofs.Words.{◌≡◌, ◌∙◌, ap, sym, subst, Some, None, ◌==◌, Option, ℕ, List, list_any, Name, Database, Accepted, active_variables, typed_variables, is_variable, has_float, codes_or_len, Declared, kind_in, names_of_kind, MatchesKind, MatchesKinds, IsNumberOf, symbols_of, IsSort, variable_sort, NameKind, Sort, Constant, Variable, Label, code-at, found-number}
use Rattle.scope.specs.declared.legal.Sort.TheVariants as sort
use Rattle.scope.proofs.SortsLemmas.{constant-sort, label-sort, no-sort, variable-sort, numbers-has, is_variable-active, has_float-typed}
use Rattle.scope.proofs.NamesLemmas.{symbols-distinct}
use Rattle.scope.proofs.legal.RuleChecker.look_up.Goals as goal

-- the kind of a name in the numbering is the one that the statements declare it as
tells : (S : Database) (names : Declared) (x : Name) (k : Option NameKind) → MatchesKinds S names → k ≡ kind_in names x → MatchesKind S x k
tells S names x k kinds_match is = subst (λ (k : Option NameKind). MatchesKind S x k) (sym is) (kinds_match x)

pub returns-in-Some-default-Constant-clause-sort : goal.returns-in-Some-default-Constant-clause-sort
returns-in-Some-default-Constant-clause-sort c =
    let S = c.self.inside.rules.now.statements in let x = c.args.name.now in let s = c.in-Some-default-Constant in
    subst (λ (v : Accepted). IsSort v.statements x sort.Constant) c.self.view_is
    (constant-sort S x (tells S c.self.inside.names.now x (Some Constant) c.self.invariant.kinds_match (ap Some (sym s.field-0-1-is) ∙ s.ensures.kind)))

pub returns-in-Some-default-Label-clause-sort : goal.returns-in-Some-default-Label-clause-sort
returns-in-Some-default-Label-clause-sort c =
    let S = c.self.inside.rules.now.statements in let x = c.args.name.now in let s = c.in-Some-default-Label in
    subst (λ (v : Accepted). IsSort v.statements x sort.Label) c.self.view_is
    (label-sort S x (tells S c.self.inside.names.now x (Some Label) c.self.invariant.kinds_match (ap Some (sym s.field-0-1-is) ∙ s.ensures.kind)))

pub returns-in-None-clause-sort : goal.returns-in-None-clause-sort
returns-in-None-clause-sort c =
    let S = c.self.inside.rules.now.statements in let x = c.args.name.now in
    subst (λ (v : Accepted). IsSort v.statements x sort.Other) c.self.view_is
    (no-sort S x (tells S c.self.inside.names.now x None c.self.invariant.kinds_match c.in-None.ensures.kind))

-- the sort of a variable, by whether its number is on each of the two stacks
variable : (S : Database) (x : Name) (n : ℕ) (r : Sort) → MatchesKind S x (Some Variable) → IsNumberOf (symbols_of S) x n
    → r ≡ variable_sort (list_any (λ m. m == n) (codes_or_len (symbols_of S) (active_variables S))) (list_any (λ m. m == n) (codes_or_len (symbols_of S) (typed_variables S))) → IsSort S x r
variable S x n r t number is =
    let found = found-number (symbols_of S) x n (sym (code-at (symbols_of S) x n (symbols-distinct S) number.0 number.1)) in
    let active : list_any (λ m. m == n) (codes_or_len (symbols_of S) (active_variables S)) ≡ is_variable S x =
    ap (λ k. list_any (λ m. m == k) (codes_or_len (symbols_of S) (active_variables S))) (sym found.1) ∙ (numbers-has (symbols_of S) x (active_variables S) found.0 ∙ sym (is_variable-active S x)) in
    let typed : list_any (λ m. m == n) (codes_or_len (symbols_of S) (typed_variables S)) ≡ has_float S x =
    ap (λ k. list_any (λ m. m == k) (codes_or_len (symbols_of S) (typed_variables S))) (sym found.1) ∙ (numbers-has (symbols_of S) x (typed_variables S) found.0 ∙ sym (has_float-typed S x)) in
    subst (λ (q : Sort). IsSort S x q) (sym (is ∙ (ap (λ a. variable_sort a (list_any (λ m. m == n) (codes_or_len (symbols_of S) (typed_variables S)))) active ∙ ap (λ b. variable_sort (is_variable S x) b) typed))) (variable-sort S x t)

pub returns-in-Some-default-Variable-clause-sort : goal.returns-in-Some-default-Variable-clause-sort
returns-in-Some-default-Variable-clause-sort c =
    let S = c.self.inside.rules.now.statements in let x = c.args.name.now in let s = c.in-Some-default-Variable in let names = c.self.inside.names.now in
    subst (λ (v : Accepted). IsSort v.statements x c.sort_of_variable.result) c.self.view_is
    (variable S x s.number c.sort_of_variable.result (tells S names x (Some Variable) c.self.invariant.kinds_match (ap Some (sym s.field-0-1-is) ∙ s.ensures.kind))
    (subst (λ (N : List Name). IsNumberOf N x s.number) c.self.invariant.symbols (subst (λ (k : NameKind). IsNumberOf (names_of_kind k names) x s.number) s.field-0-1-is s.ensures.number))
    c.sort_of_variable.ensures)
