-- The line and the column of an offset of a text, both counted from 1.
-- Source: this project's choice: a line feed ends a line, and columns count bytes.
-- The code goes over the bytes; here the beginning of a line is defined by the bytes around it.
use Rattle.std.specs.Prelude.{◌≡◌, ◌≢◌, ℕ, ◌+◌, ◌-◌, ◌<◌, ◌≤◌, ◌==◌, List, take, count_by, slice_index}

-- the byte that ends a line
abbrev pub line_feed : ℕ
line_feed = 10

-- the line of the offset: one more than the line feeds before it
abbrev pub line_of : List ℕ → ℕ → ℕ
line_of text offset = 1 + count_by (λ b. b == line_feed) (take offset text)

-- the line of the offset begins at `start`: at the first byte or right after a line feed, with no
-- line feed between `start` and the offset
pub record BeginsLine (text : List ℕ) (offset start : ℕ) : Type 0 where
  pub before : start ≤ offset
  pub after : 0 < start → slice_index text (start - 1) ≡ line_feed
  pub none : (k : ℕ) → start ≤ k → k < offset → slice_index text k ≢ line_feed

-- the column of the offset: one more than the bytes between the beginning of its line and the
-- offset
abbrev pub IsColumn : List ℕ → ℕ → ℕ → Type 0
IsColumn text offset column = (start : ℕ) × BeginsLine text offset start × (column ≡ (offset - start) + 1)
