-- Symbols as numbers: each declared symbol has its index in the list of symbols by first
-- declaration.
-- Source: Metamath, 4.2.1 (which statements declare a symbol); the numbers are this project's
-- choice.
use Rattle.std.specs.Prelude.{◌≡◌, ℕ, List, [], ◌∷◌, Option, Some, None}
use Rattle.scope.specs.Words.{Name, Stmt, Const, Var, Disj, Float, Ess, Axiom, Prove, Expr, Database, decode, with_names, AreCodes}
use Rattle.scope.specs.Active.{label_of}

-- the symbols that a statement declares
abbrev pub symbols_declared_by : Stmt → List Name
symbols_declared_by (Const symbols) = symbols
symbols_declared_by (Var symbols) = symbols
symbols_declared_by s = []

-- these symbols and those that the statements declare, each once
abbrev pub symbols_from : List Name → Database → List Name
symbols_from symbols [] = symbols
symbols_from symbols (s ∷ S) = symbols_from (with_names symbols (symbols_declared_by s)) S

-- the declared symbols, in the order of their first declaration
abbrev pub symbols_of : Database → List Name
symbols_of S = symbols_from [] S

-- the symbols that a statement has
abbrev pub symbols_in : Stmt → Expr
symbols_in (Const symbols) = symbols
symbols_in (Var symbols) = symbols
symbols_in (Disj symbols) = symbols
symbols_in (Float label constant variable) = constant ∷ variable ∷ []
symbols_in (Ess label expr) = expr
symbols_in (Axiom label expr) = expr
symbols_in (Prove label expr proof) = expr
symbols_in s = []

-- the numbers are those of the symbols of an expression
abbrev pub AreNumbers : List Name → Expr → List ℕ → Type 0
AreNumbers symbols xs numbers = AreCodes symbols numbers × (decode symbols numbers ≡ xs)

-- the numbers are those of the variables that a `$v` declares, or of the two symbols of a `$f`; for
-- another statement nothing is required
abbrev pub AreVariableNumbers : List Name → Stmt → List ℕ → Type 0
AreVariableNumbers symbols (Var xs) numbers = AreNumbers symbols xs numbers
AreVariableNumbers symbols (Float label constant variable) numbers = AreNumbers symbols (constant ∷ variable ∷ []) numbers
AreVariableNumbers symbols s numbers = Unit {0}

-- the symbols after one more statement
abbrev pub symbols_after : Database → Stmt → List Name
symbols_after S s = with_names (symbols_of S) (symbols_declared_by s)

-- a list, with the content of an option put in front
abbrev pub prepend_option : {A : Type 0} → Option A → List A → List A
prepend_option None xs = xs
prepend_option (Some x) xs = x ∷ xs

-- the labels, in order
abbrev pub labels_of : Database → List Name
labels_of [] = []
labels_of (s ∷ S) = prepend_option (label_of s) (labels_of S)
