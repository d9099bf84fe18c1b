-- Why a text cannot be split into tokens.
-- Source: Metamath, 4.1.1 (the bytes of a text) and 4.1.2 (comments do not nest).
-- The code returns the first fault that it meets; here the definition of each fault also describes
-- the text before it.
use Rattle.std.specs.Prelude.{◌≡◌, ℕ, ◌<◌, ◌⊎◌, IsFalse, List, ◌∷◌, ◌++◌, length, take, slice_index}
use Rattle.mm_lex.specs.declared.span.Span.{Span}
use Rattle.mm_lex.specs.declared.fault.LexFault.{LexFault}
use Rattle.mm_lex.specs.declared.fault.LexFault.TheVariants.{Text, Comment, Memory}
use Rattle.mm_lex.specs.Alphabet.{is_allowed, runs, word}
use Rattle.mm_lex.specs.Tokens.{opener, closer, AllPlain, HasOnlyAllowedBytes, SplitsInto}

-- the first byte that is not allowed
pub record IsFirstBadByte (text : List ℕ) (offset : ℕ) : Type 0 where
  pub inside : offset < length text
  pub bad : IsFalse (is_allowed (slice_index text offset))
  pub before : HasOnlyAllowedBytes (take offset text)

-- a `$)` outside comments, with the span `at`; the runs before it are tokens and whole comments
pub record IsStrayCloser (text : List ℕ) (spans : List Span) (offset : ℕ) : Type 0 where
  pub before : List Span
  pub tokens : List Span
  pub at : Span
  pub rest : List Span
  pub whole : spans ≡ before ++ at ∷ rest
  pub split : SplitsInto text before tokens
  pub closes : word text at ≡ closer
  pub place : at.start ≡ offset

-- a `$(` inside a comment, with the span `at`; the runs before the outer `$(` are tokens and whole
-- comments
pub record IsNestedOpener (text : List ℕ) (spans : List Span) (offset : ℕ) : Type 0 where
  pub before : List Span
  pub tokens : List Span
  pub outer : Span
  pub inside : List Span
  pub at : Span
  pub rest : List Span
  pub whole : spans ≡ before ++ outer ∷ (inside ++ at ∷ rest)
  pub split : SplitsInto text before tokens
  pub opens : word text outer ≡ opener
  pub plain : AllPlain text inside
  pub opens_again : word text at ≡ opener
  pub place : at.start ≡ offset

-- a `$(` that is never closed, with the span `at`; the runs before it are tokens and whole comments
pub record IsUnclosed (text : List ℕ) (spans : List Span) (offset : ℕ) : Type 0 where
  pub before : List Span
  pub tokens : List Span
  pub at : Span
  pub inside : List Span
  pub whole : spans ≡ before ++ at ∷ inside
  pub split : SplitsInto text before tokens
  pub opens : word text at ≡ opener
  pub plain : AllPlain text inside
  pub place : at.start ≡ offset

-- the offset of the first comment fault of these runs
abbrev pub IsCommentFaultOfRuns : List ℕ → List Span → ℕ → Type 0
IsCommentFaultOfRuns text spans offset = IsStrayCloser text spans offset ⊎ IsNestedOpener text spans offset ⊎ IsUnclosed text spans offset

-- the comment fault of a text whose bytes are all allowed
abbrev pub IsCommentFault : List ℕ → ℕ → Type 0
IsCommentFault text offset = HasOnlyAllowedBytes text × IsCommentFaultOfRuns text (runs text) offset

-- the text has this fault; a failed allocation says nothing of it
abbrev pub IsLexFault : List ℕ → LexFault → Type 0
IsLexFault text (Text offset) = IsFirstBadByte text offset
IsLexFault text (Comment offset) = IsCommentFault text offset
IsLexFault text Memory = Unit {0}
