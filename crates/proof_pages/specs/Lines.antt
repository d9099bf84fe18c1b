-- A statement without its proof as a line, and its frame as lines.
-- Source: this project's command `show`; Metamath, 4.2.7 (the frame of an assertion).
-- The code appends each part to a buffer.
use Rattle.std.specs.Prelude.{ℕ, List, [], ◌++◌, length, codes, decimal, flat_map, map, Option, Some, None, if◌then◌else◌}
use Rattle.mm_lex.specs.Alphabet.{Name}
use Rattle.mm_lex.specs.Words.{spaced}
use Rattle.mm_read.specs.declared.stmt.Stmt.{Stmt}
use Rattle.mm_read.specs.declared.stmt.Stmt.TheVariants.{Float, Ess, Axiom, Prove}
use Rattle.mm_read.specs.Statements.{Database}
use Rattle.names.specs.Codes.{name_at}
use Rattle.scope.specs.Active.{bares, before, stmt_at, is_assertion}
use Rattle.frame.specs.FrameOf.{hypotheses, mandatory_groups}

-- three texts, one after another
abbrev pub three_joined : Name → List ℕ → List ℕ → List ℕ
three_joined first second third = first ++ second ++ third

-- the number of a proof's tokens, and the end of the line
abbrev pub proof_note : List Name → List ℕ
proof_note proof = codes " (proof of " ++ decimal (length proof) ++ codes " tokens)\n"

-- the line of a statement that has a label, without its proof
abbrev pub statement_line : Stmt → List ℕ
statement_line (Float label constant variable) = three_joined label (codes " $f ") constant ++ three_joined (codes " ") variable (codes "\n")
statement_line (Ess label expr) = three_joined label (codes " $e ") (spaced expr) ++ codes "\n"
statement_line (Axiom label expr) = three_joined label (codes " $a ") (spaced expr) ++ codes "\n"
statement_line (Prove label expr proof) = three_joined label (codes " $p ") (spaced expr) ++ proof_note proof
statement_line s = []

-- the line of a statement, if there is one
abbrev pub line_if : Option Stmt → List ℕ
line_if None = []
line_if (Some s) = statement_line s

abbrev pub line_at : Database → ℕ → List ℕ
line_at S position = line_if (stmt_at S position)

-- a symbol after a space
abbrev pub after_space : Name → List ℕ
after_space name = codes " " ++ name

-- a list of disjoint variables, as the line of a `$d`
abbrev pub group_line : List Name → List ℕ
group_line group = codes "$d" ++ flat_map after_space group ++ codes "\n"

-- the frame of the assertion at a position: its mandatory hypotheses, and its mandatory variables
-- in each active `$d`
abbrev pub frame_lines : Database → ℕ → Stmt → List ℕ
frame_lines S at s =
    flat_map (line_at S) (hypotheses (before (bares S) at) s) ++ flat_map group_line (mandatory_groups (before (bares S) at) s)

-- a variable of a group, given by its symbol number; for the private functions of `frame_lines`
abbrev pub symbol_text : List Name → ℕ → List ℕ
symbol_text names n = codes " " ++ name_at names n

abbrev pub group_line_of_numbers : List Name → List ℕ → List ℕ
group_line_of_numbers names group = codes "$d" ++ flat_map (symbol_text names) group ++ codes "\n"

-- the frame of an assertion; nothing for any other statement
abbrev pub frame_if : Database → ℕ → Stmt → List ℕ
frame_if S at s = if is_assertion s then frame_lines S at s else []
