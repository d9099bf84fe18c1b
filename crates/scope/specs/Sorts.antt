-- The sort of a name after the statements: a constant, an active variable with or without an active
-- `$f`, a label, or none of these.
-- Source: Metamath, 4.2.
-- The code looks a name up once; its sort decides each rule on expressions.
use Rattle.std.specs.Prelude.{◌≡◌, ℕ, ◌==◌, Bool, true, false, not, ◌||◌, ◌&&◌, List, [], ◌∷◌, ◌++◌, Option, Some, None, if◌then◌else◌}
use Rattle.scope.specs.Words.{list_all, list_any, Name, Expr, Database, codes_or_len}
use Rattle.scope.specs.Active.{is_constant, is_variable, was_label, has_float, active_variables, typed_variables}
use Rattle.scope.specs.Legal.{are_typed, starts_with_constant}
use Rattle.scope.specs.Stored.SymbolNumbers.{AreRecorded}
use Rattle.scope.specs.Symbols.{symbols_of}
use Rattle.scope.specs.declared.rule.Rule.{Rule}
use Rattle.scope.specs.declared.rule.Rule.TheVariants.{G5, G6, G7}
use Rattle.scope.specs.declared.legal.Sort.{Sort}
use Rattle.scope.specs.declared.legal.Sort.TheVariants.{Constant, Typed, Untyped, Label, Other}

abbrev pub is_constant_sort : Sort → Bool
is_constant_sort Constant = true
is_constant_sort sort = false

abbrev pub is_variable_sort : Sort → Bool
is_variable_sort Typed = true
is_variable_sort Untyped = true
is_variable_sort sort = false

abbrev pub is_untyped_sort : Sort → Bool
is_untyped_sort Untyped = true
is_untyped_sort sort = false

abbrev pub is_label_sort : Sort → Bool
is_label_sort Label = true
is_label_sort sort = false

-- the sort of a variable, by whether it is active, and whether it has an active `$f`
abbrev pub variable_sort : Bool → Bool → Sort
variable_sort false typed = Other
variable_sort true true = Typed
variable_sort true false = Untyped

-- the name has this sort after the statements
pub record IsSort (S : Database) (x : Name) (sort : Sort) : Type 0 where
  pub constant : is_constant S x ≡ is_constant_sort sort
  pub variable : is_variable S x ≡ is_variable_sort sort
  pub label : was_label S x ≡ is_label_sort sort
  pub untyped : (not (is_variable S x) || has_float S x) ≡ not (is_untyped_sort sort)

abbrev pub is_symbol_sort : Sort → Bool
is_symbol_sort sort = is_constant_sort sort || is_variable_sort sort

-- if the name is a symbol, its number is recorded after those of earlier symbols
abbrev pub RecordsSymbol : Database → Name → Sort → Option (List ℕ) → Option (List ℕ) → Type 0
RecordsSymbol S name sort old new = (xs : Expr) → is_symbol_sort sort ≡ true → AreRecorded (symbols_of S) xs old → AreRecorded (symbols_of S) (xs ++ name ∷ []) new

-- whether the first symbol of an expression is a constant, and whether each variable has an active
-- `$f`; or `None` if a symbol is neither a constant nor an active variable
abbrev pub checked_symbols : Database → Expr → Option (Bool × Bool)
checked_symbols S expr = if list_all (λ x. is_constant S x || is_variable S x) expr then Some (starts_with_constant S expr, are_typed S expr) else None

-- whether it is the number of one of the names
abbrev pub is_number_among : Database → List Name → ℕ → Bool
is_number_among S names number = list_any (λ n. n == number) (codes_or_len (symbols_of S) names)

-- the sort of a symbol that was declared as a variable, by its number
abbrev pub sort_of_variable : Database → ℕ → Sort
sort_of_variable S number = variable_sort (is_number_among S (active_variables S) number) (is_number_among S (typed_variables S) number)

-- the least of the rules G5 to G7 that a `$f` with symbols of these sorts breaks
abbrev pub broken_by_sorts : Sort → Sort → Option Rule
broken_by_sorts constant variable =
    if not (is_symbol_sort constant && is_symbol_sort variable) then Some G5
    else (if not (is_constant_sort constant) then Some G6 else (if not (is_untyped_sort variable) then Some G7 else None))
