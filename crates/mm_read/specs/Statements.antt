-- Statements: the words that each of the nine shapes may have, and the tokens that it is written
-- as.
-- Source: Metamath, 4.1 and appendix E.
-- The code reads the tokens left to right; here a statement is written out as its tokens.
use Rattle.std.specs.Prelude.{Bool, true, false, not, ◌&&◌, IsTrue, List, [], ◌∷◌, ◌++◌, flat_map, codes}
use Rattle.std.specs.List.{list_all}
use Rattle.mm_lex.specs.Alphabet.{Name, is_empty, is_symbol, is_label}
use Rattle.mm_read.specs.declared.stmt.Stmt.{Stmt}
use Rattle.mm_read.specs.declared.stmt.Stmt.TheVariants.{Open, Close, Const, Var, Disj, Float, Ess, Axiom, Prove}

-- an expression: a list of symbols
abbrev pub Expr : Type 0
Expr = List Name

-- a list of statements: those of a database, or of a part of one
abbrev pub Database : Type 0
Database = List Stmt

-- whether there is at least one word, and each is a symbol
abbrev pub are_symbols : List Name → Bool
are_symbols ws = not (is_empty ws) && list_all is_symbol ws

-- whether there are two or more words
abbrev pub has_two : List Name → Bool
has_two [] = false
has_two (w ∷ ws) = not (is_empty ws)

-- whether the statement is well shaped: its words are those that its shape may have
abbrev pub is_shaped : Stmt → Bool
is_shaped Open = true
is_shaped Close = true
is_shaped (Const ws) = are_symbols ws
is_shaped (Var ws) = are_symbols ws
is_shaped (Disj ws) = are_symbols ws && has_two ws
is_shaped (Float label constant variable) = is_label label && is_symbol constant && is_symbol variable
is_shaped (Ess label expr) = is_label label && are_symbols expr
is_shaped (Axiom label expr) = is_label label && are_symbols expr
is_shaped (Prove label expr proof) = is_label label && are_symbols expr && list_all is_symbol proof

abbrev pub IsShaped : Stmt → Type 0
IsShaped s = IsTrue (is_shaped s)

abbrev pub AreShaped : Database → Type 0
AreShaped S = IsTrue (list_all is_shaped S)

-- the tokens that a statement is written as
abbrev pub stmt_tokens : Stmt → List Name
stmt_tokens Open = codes "${" ∷ []
stmt_tokens Close = codes "$}" ∷ []
stmt_tokens (Const ws) = codes "$c" ∷ (ws ++ codes "$." ∷ [])
stmt_tokens (Var ws) = codes "$v" ∷ (ws ++ codes "$." ∷ [])
stmt_tokens (Disj ws) = codes "$d" ∷ (ws ++ codes "$." ∷ [])
stmt_tokens (Float label constant variable) = label ∷ codes "$f" ∷ constant ∷ variable ∷ codes "$." ∷ []
stmt_tokens (Ess label expr) = label ∷ codes "$e" ∷ (expr ++ codes "$." ∷ [])
stmt_tokens (Axiom label expr) = label ∷ codes "$a" ∷ (expr ++ codes "$." ∷ [])
stmt_tokens (Prove label expr proof) = label ∷ codes "$p" ∷ (expr ++ codes "$=" ∷ (proof ++ codes "$." ∷ []))

-- the tokens that a list of statements is written as
abbrev pub tokens_of : Database → List Name
tokens_of S = flat_map stmt_tokens S
