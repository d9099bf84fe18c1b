-- A text with its tokens, and where a token of a statement begins.
-- Source: this project's choice; a statement is counted as `places` counts it.
use Rattle.std.specs.Prelude.{ℕ, List, length, Option, Some, None}
use Rattle.mm_lex.specs.declared.span.Span.{Span}

-- the bytes of a text, and the spans of its tokens
pub record SplitText : Type 0 where
  pub text : List ℕ
  pub spans : List Span

-- where the span begins; without one, the end of the text
abbrev pub start_or_end : List ℕ → Option Span → ℕ
start_or_end text None = length text
start_or_end text (Some span) = span.start
