-- The export form: the text that `spell` writes for a list of statements.
-- Source: this project's choice; each statement is written as its tokens (Metamath, 4.1).
-- The code copies whole lists of words as they are stored.
use Rattle.std.specs.Prelude.{ℕ, List, [], ◌∷◌, ◌++◌, flat_map}
use Rattle.mm_lex.specs.Alphabet.{Name}
use Rattle.mm_lex.specs.Words.{spaced}
use Rattle.mm_read.specs.declared.stmt.Stmt.{Stmt}
use Rattle.mm_read.specs.declared.stmt.Stmt.TheVariants.{Prove}
use Rattle.mm_read.specs.Statements.{Database, stmt_tokens}

-- a statement's tokens, separated by single spaces, and a line feed (byte 10)
abbrev pub line_of : Stmt → List ℕ
line_of s = spaced (stmt_tokens s) ++ 10 ∷ []

-- the text of these statements: a line for each
abbrev pub export_of : Database → List ℕ
export_of S = flat_map line_of S

-- the statement with this proof in place of its own, if it has one
abbrev pub with_proof : Stmt → List Name → Stmt
with_proof (Prove label expr old) proof = Prove label expr proof
with_proof s proof = s
