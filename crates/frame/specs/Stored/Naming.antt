-- The names that statements declare, each with its kind.
-- Internal to the code: no public clause cites it.
use Rattle.std.specs.Prelude.{Bool, ◌||◌, [], ◌∷◌, Option}
use Rattle.frame.specs.Words.{Database, Declared, is_some_constant, is_some_variable, declared_with, NameKind}

-- the names, followed by those that the statements declare
abbrev pub naming_from : Declared → Database → Declared
naming_from names [] = names
naming_from names (s ∷ S) = naming_from (declared_with names s) S

-- the symbols and labels of the statements, in the order of their first declaration
abbrev pub naming_of : Database → Declared
naming_of S = naming_from [] S

-- the kind is that of a symbol
abbrev pub is_kind_of_symbol : Option NameKind → Bool
is_kind_of_symbol kind = is_some_constant kind || is_some_variable kind
