-- The kinds of comment faults, and the first token of the statement that contains a token.
-- Source: Metamath, 4.1.2 (comments do not nest) and 4.1 (each statement but `${` and `$}` ends
-- with `$.`).
-- The code looks only at the text up to the fault; here a kind is defined by the whole text.
use Rattle.std.specs.Prelude.{◌≡◌, ℕ, ◌-◌, ◌<◌, ◌≤◌, List, IsTrue, IsFalse, slice_index_or, []}
use Rattle.mm_lex.specs.declared.span.Span.{Span}
use Rattle.mm_lex.specs.Alphabet.{Name, runs}
use Rattle.mm_lex.specs.TextFaults.{IsStrayCloser, IsNestedOpener, IsUnclosed}
use Rattle.places.specs.declared.comments.CommentFaultKind.{CommentFaultKind}
use Rattle.places.specs.declared.comments.CommentFaultKind.TheVariants.{StrayCloser, Nested, Unclosed}
use Rattle.places.specs.TokenSpans.{ends_statement}

-- the `$(` at the offset is inside the comment whose `$(` begins at `outer`
abbrev pub IsNestedIn : List ℕ → List Span → ℕ → ℕ → Type 0
IsNestedIn text spans offset outer = (fault : IsNestedOpener text spans offset) × (fault.outer.start ≡ outer)

-- the fault at the offset is of this kind: a `$)` outside a comment; a `$(` inside the comment that
-- begins at `outer`; a `$(` of a comment that is never closed
abbrev pub IsCommentFaultKind : List ℕ → ℕ → CommentFaultKind → Type 0
IsCommentFaultKind text offset StrayCloser = IsStrayCloser text (runs text) offset
IsCommentFaultKind text offset (Nested outer) = IsNestedIn text (runs text) offset outer
IsCommentFaultKind text offset Unclosed = IsUnclosed text (runs text) offset

-- the statement of the token at this index begins at `start`: `start` is 0 or follows a token that
-- ends a statement, and no token from `start` to before `token_index` ends one
pub record BeginsStatement (tokens : List Name) (token_index start : ℕ) : Type 0 where
  pub before : start ≤ token_index
  pub after : 0 < start → IsTrue (ends_statement (slice_index_or tokens (start - 1) []))
  pub none : (k : ℕ) → start ≤ k → k < token_index → IsFalse (ends_statement (slice_index_or tokens k []))
