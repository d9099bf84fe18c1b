-- The block of a statement: its line, column and number, its description, its frame if it is an
-- assertion, and the statement.
-- Source: this project's command `show`.
-- The code appends each part to a buffer.
use Rattle.std.specs.Prelude.{ℕ, List, [], ◌++◌, map, codes, decimal, Option, Some, None}
use Rattle.mm_lex.specs.Alphabet.{runs, word}
use Rattle.mm_read.specs.declared.stmt.Stmt.{Stmt}
use Rattle.mm_read.specs.Statements.{Database}
use Rattle.places.specs.declared.lines_and_columns.LineAndColumn.{LineAndColumn}
use Rattle.proof_pages.specs.Wrapped.{wrapped}
use Rattle.proof_pages.specs.Lines.{statement_line, frame_if}

-- line and column, as LINE:COLUMN
abbrev pub line_and_column_text : LineAndColumn → List ℕ
line_and_column_text line_and_column = decimal line_and_column.line ++ codes ":" ++ decimal line_and_column.column

-- a line with the line, the column and the number of the statement
abbrev pub heading : LineAndColumn → ℕ → List ℕ
heading line_and_column at = line_and_column_text line_and_column ++ codes ": " ++ decimal at ++ codes "\n"

-- the words of the description, if there is one
abbrev pub description_lines : Option (List ℕ) → List ℕ
description_lines None = []
description_lines (Some text) = wrapped (map (word text) (runs text))

-- the block of the statement s at a position
abbrev pub block_text : Database → ℕ → Stmt → LineAndColumn → Option (List ℕ) → List ℕ
block_text S at s line_and_column description = heading line_and_column at ++ description_lines description ++ frame_if S at s ++ statement_line s
