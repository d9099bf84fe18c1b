-- The symbols of a pattern that a database does not have.
-- Source: Metamath, 4.2: `$c` and `$v` declare the symbols.
-- The code goes from one part to the next.
use Rattle.std.specs.Prelude.{Bool, false, if◌then◌else◌, List, [], ◌∷◌, Option, Some, None}
use Rattle.std.specs.List.{list_any}
use Rattle.mm_lex.specs.Alphabet.{Name, has_name}
use Rattle.mm_read.specs.declared.stmt.Stmt.{Stmt}
use Rattle.mm_read.specs.declared.stmt.Stmt.TheVariants.{Const, Var}
use Rattle.mm_read.specs.Statements.{Database}
use Rattle.finding.specs.Matches.{Part, symbol, any_symbol, any_sequence}
use Rattle.finding.specs.declared.query.SearchQuery.{SearchQuery}
use Rattle.finding.specs.declared.query.SearchQuery.TheVariants.{Pattern, WithHypotheses}

-- the statement declares the symbol
abbrev pub declares : Name → Stmt → Bool
declares x (Const names) = has_name x names
declares x (Var names) = has_name x names
declares x s = false

-- a `$c` or a `$v` of the database declares the symbol
abbrev pub is_declared : Database → Name → Bool
is_declared S x = list_any (declares x) S

-- the symbol of a part, if the database does not declare it
abbrev pub undeclared_part : Database → Part → Option Name
undeclared_part S (symbol x) = if is_declared S x then None else Some x
undeclared_part S any_symbol = None
undeclared_part S any_sequence = None

-- the first of two, or the second if there is no first
abbrev pub first_of : Option Name → Option Name → Option Name
first_of (Some x) other = Some x
first_of None other = other

-- the first symbol of a pattern that the database does not declare
abbrev pub undeclared : Database → List Part → Option Name
undeclared S [] = None
undeclared S (part ∷ parts) = first_of (undeclared_part S part) (undeclared S parts)

-- the first symbol of the pattern of a search that is not declared
abbrev pub undeclared_in : Database → SearchQuery → Option Name
undeclared_in S (Pattern p) = undeclared S p
undeclared_in S (WithHypotheses p) = undeclared S p
undeclared_in S query = None
