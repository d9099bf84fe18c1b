-- The tokens (words outside comments) between two offsets of a text, and after an offset. The text
-- after an offset includes the byte at the offset.
-- Source: Metamath, 4.1.1 and 4.1.2.
-- The code goes from token to token; here the runs between two offsets, or after one, are split at
-- the comments at once.
use Rattle.std.specs.Prelude.{◌≡◌, ℕ, ◌<◌, ◌≤◌, List, [], ◌∷◌, ◌++◌, length, Option, Some, None}
use Rattle.mm_lex.specs.declared.span.Span.{Span}
use Rattle.mm_lex.specs.declared.fault.LexFault.{LexFault}
use Rattle.mm_lex.specs.declared.fault.LexFault.TheVariants.{Text, Comment, Memory}
use Rattle.mm_lex.specs.Alphabet.{Name, word}
use Rattle.mm_lex.specs.Tokens.{SplitsInto, IsWordAt, words}
use Rattle.mm_lex.specs.TextFaults.{IsCommentFaultOfRuns}
use Rattle.mm_lex.specs.Comments.{runs_after}

-- the tokens from one offset up to the other are these words
pub record AreTokensBetween (text : List ℕ) (from at : ℕ) (ws : List Name) : Type 0 where
  pub later : from ≤ at
  pub within : at ≤ length text
  pub passed : List Span
  pub tokens : List Span
  pub whole : runs_after text from ≡ passed ++ runs_after text at
  pub split : SplitsInto text passed tokens
  pub are : words text tokens ≡ ws

-- the tokens after an offset are these words
abbrev pub AreTokensAfter : List ℕ → ℕ → List Name → Type 0
AreTokensAfter text at ws = (tokens : List Span) × SplitsInto text (runs_after text at) tokens × (words text tokens ≡ ws)

-- there are `count` tokens after an offset
abbrev pub IsTokenCountAfter : List ℕ → ℕ → ℕ → Type 0
IsTokenCountAfter text at count = (ws : List Name) × AreTokensAfter text at ws × (length ws ≡ count)

-- the fault is the comment fault of the text after an offset
abbrev pub IsCommentFaultAfter : List ℕ → ℕ → LexFault → Type 0
IsCommentFaultAfter text at (Text offset) = ⊥
IsCommentFaultAfter text at (Comment offset) = IsCommentFaultOfRuns text (runs_after text at) offset
IsCommentFaultAfter text at Memory = ⊥

-- the fault is the comment fault of the text after an offset, or a failed allocation
abbrev pub IsCommentFaultOrMemoryAfter : List ℕ → ℕ → LexFault → Type 0
IsCommentFaultOrMemoryAfter text at (Text offset) = ⊥
IsCommentFaultOrMemoryAfter text at (Comment offset) = IsCommentFaultOfRuns text (runs_after text at) offset
IsCommentFaultOrMemoryAfter text at Memory = Unit {0}

-- the span is the place of the next token after an offset
pub record IsTokenAfter (text : List ℕ) (at : ℕ) (s : Span) : Type 0 where
  pub token : IsWordAt text s
  pub later : at < s.end
  pub between : AreTokensBetween text at s.end (word text s ∷ [])

-- the place of the next token after an offset, or `None` if no token is left
abbrev pub IsNextToken : List ℕ → ℕ → Option Span → Type 0
IsNextToken text at (Some s) = IsTokenAfter text at s
IsNextToken text at None = AreTokensAfter text at []
