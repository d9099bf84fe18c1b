-- The kinds of declared names: labels, constants and variables.
-- Source: Metamath, 4.2.
-- The code keeps a name's kind beside its number; here it is looked for in the statements.
use Rattle.std.specs.Prelude.{◌≡◌, ◌<◌, Bool, true, false, List, [], ◌∷◌, ◌++◌, map, length, take, ℕ, Option, Some, None, is_some, if◌then◌else◌}
use Rattle.scope.specs.Words.{Name, name_eq, Database, name_at}
use Rattle.scope.specs.Active.{is_constant, was_variable, was_label}
use Rattle.scope.specs.Symbols.{symbols_of, labels_of}
use Rattle.scope.specs.declared.numbering.NameKind.{NameKind}
use Rattle.scope.specs.declared.numbering.NameKind.TheVariants.{Label, Constant, Variable}

-- names, each with the kind that it was declared as
abbrev pub Declared : Type 0
Declared = List (Name × NameKind)

-- each name with the kind at its index
abbrev pub zip_kinds : List Name → List NameKind → Declared
zip_kinds [] kinds = []
zip_kinds (x ∷ names) [] = []
zip_kinds (x ∷ names) (k ∷ kinds) = (x, k) ∷ zip_kinds names kinds

-- the names without their kinds
abbrev pub declared_names : Declared → List Name
declared_names names = map (λ p. p.0) names

-- the kind of a name, by the first entry for it
abbrev pub kind_in : Declared → Name → Option NameKind
kind_in [] x = None
kind_in (p ∷ names) x = if name_eq x p.0 then Some p.1 else kind_in names x

-- whether there is a kind, and it is that of a label; the next two ask for a constant and for a
-- variable
abbrev pub is_some_label : Option NameKind → Bool
is_some_label (Some Label) = true
is_some_label kind = false

abbrev pub is_some_constant : Option NameKind → Bool
is_some_constant (Some Constant) = true
is_some_constant kind = false

abbrev pub is_some_variable : Option NameKind → Bool
is_some_variable (Some Variable) = true
is_some_variable kind = false

-- whether a name of this kind is a symbol; the next asks for a label
abbrev pub is_symbol_kind : NameKind → Bool
is_symbol_kind Label = false
is_symbol_kind kind = true

abbrev pub is_label_kind : NameKind → Bool
is_label_kind Label = true
is_label_kind kind = false

-- the names whose kind passes the test, in order
abbrev pub names_where : (NameKind → Bool) → Declared → List Name
names_where test [] = []
names_where test (p ∷ names) =
    if test p.1 then p.0 ∷ names_where test names else names_where test names

-- the names that are not labels, in order
abbrev pub declared_symbols : Declared → List Name
declared_symbols names = names_where is_symbol_kind names

-- the labels, in order
abbrev pub declared_labels : Declared → List Name
declared_labels names = names_where is_label_kind names

-- the list in which a name of this kind has its number
abbrev pub names_of_kind : NameKind → Declared → List Name
names_of_kind Label names = declared_labels names
names_of_kind kind names = declared_symbols names

-- n is the number of the name: its index in this list
abbrev pub IsNumberOf : List Name → Name → ℕ → Type 0
IsNumberOf names x n = (n < length names) × (name_at names n ≡ x)

-- how many of the names before an index are symbols
abbrev pub symbol_count_before : Declared → ℕ → ℕ
symbol_count_before names n = length (declared_symbols (take n names))

-- the kind is the one that the statements declare the name as, or `None` if they do not declare it
pub record MatchesKind (S : Database) (x : Name) (kind : Option NameKind) : Type 0 where
  pub label : was_label S x ≡ is_some_label kind
  pub constant : is_constant S x ≡ is_some_constant kind
  pub variable : was_variable S x ≡ is_some_variable kind

abbrev pub MatchesKinds : Database → Declared → Type 0
MatchesKinds S names = (x : Name) → MatchesKind S x (kind_in names x)

-- the names are the labels and the symbols of the statements, each with its kind
pub record IsNumberingOf (S : Database) (names : Declared) : Type 0 where
  pub kinds_match : MatchesKinds S names
  pub symbols : declared_symbols names ≡ symbols_of S
  pub labels : declared_labels names ≡ labels_of S

-- the names after the name x is declared; if it has a kind, it keeps that
abbrev pub with_kind : Declared → NameKind → Name → Declared
with_kind names kind x = if is_some (kind_in names x) then names else names ++ (x, kind) ∷ []

abbrev pub with_kinds : Declared → NameKind → List Name → Declared
with_kinds names kind [] = names
with_kinds names kind (x ∷ xs) = with_kinds (with_kind names kind x) kind xs
