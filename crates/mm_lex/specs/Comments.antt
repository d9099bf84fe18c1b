-- The end of a comment that is open at an offset of the text.
-- Source: Metamath, 4.1.2 (a comment runs to the next `$)`; comments do not nest).
-- The code goes from one run to the next; here the list of runs after the offset is split once.
use Rattle.std.specs.Prelude.{◌≡◌, ℕ, ◌<◌, ◌≤◌, List, ◌∷◌, ◌++◌, length, drop}
use Rattle.mm_lex.specs.declared.span.Span.{Span}
use Rattle.mm_lex.specs.declared.comment.CommentEnd.{CommentEnd}
use Rattle.mm_lex.specs.declared.comment.CommentEnd.TheVariants.{Closed, Nested, Unclosed}
use Rattle.mm_lex.specs.Alphabet.{runs_from, word}
use Rattle.mm_lex.specs.Tokens.{opener, closer, AllPlain}

-- the runs of the text at or after an offset; an offset inside a run begins a run
abbrev pub runs_after : List ℕ → ℕ → List Span
runs_after text at = runs_from at (drop at text)

-- the runs from one offset up to the other are plain: none is `$(` or `$)`
pub record PassesPlain (text : List ℕ) (from at : ℕ) : Type 0 where
  pub passed : List Span
  pub later : from ≤ at
  pub within : at ≤ length text
  pub whole : runs_after text from ≡ passed ++ runs_after text at
  pub plain : AllPlain text passed

-- the next `$)` ends at `end`, with no `$(` before it; `at` is its span
pub record IsClosedAt (text : List ℕ) (from end : ℕ) : Type 0 where
  pub inside : List Span
  pub at : Span
  pub later : from < end
  pub within : end ≤ length text
  pub whole : runs_after text from ≡ inside ++ at ∷ runs_after text end
  pub plain : AllPlain text inside
  pub closes : word text at ≡ closer

-- the next `$(` begins at `offset`, with no `$)` before it; `at` is its span
pub record IsNestedAt (text : List ℕ) (from offset : ℕ) : Type 0 where
  pub inside : List Span
  pub at : Span
  pub rest : List Span
  pub whole : runs_after text from ≡ inside ++ at ∷ rest
  pub plain : AllPlain text inside
  pub opens_again : word text at ≡ opener
  pub place : at.start ≡ offset

-- the comment that is open at `from` ends as this `CommentEnd` says
abbrev pub EndsComment : List ℕ → ℕ → CommentEnd → Type 0
EndsComment text from (Closed end) = IsClosedAt text from end
EndsComment text from (Nested offset) = IsNestedAt text from offset
EndsComment text from Unclosed = AllPlain text (runs_after text from)
