-- What `show` prints of a statement of a library.
-- Source: this project's command `show`.
-- The code finds the statement by its label.
use Rattle.std.specs.Prelude.{◌≡◌, ℕ, List, Option, Some}
use Rattle.mm_lex.specs.Alphabet.{Name}
use Rattle.mm_read.specs.declared.stmt.Stmt.{Stmt}
use Rattle.mm_read.specs.Statements.{Database}
use Rattle.frame.specs.AtPosition.{IsPosition}
use Rattle.scope.specs.Active.{bares, stmt_at}
use Rattle.proof_pages.specs.Blocks.{block_text}

-- the block of the statement with the label, with this description; its place is that in the
-- export, of which each statement is a line
abbrev pub IsShown : Database → Name → Option (List ℕ) → List ℕ → Type 0
IsShown S label description block =
    (at : ℕ) × (s : Stmt) × IsPosition (bares S) label (Some at) × (stmt_at S at ≡ Some s)
    × (block ≡ block_text S at s (record { line = at; column = 1 }) description)
