-- The tokens of a text: its words outside comments.
-- Source: Metamath, 4.1.1 and 4.1.2 (comments count as white space).
-- The code goes from one run to the next; here the whole list of runs is split at the comments.
use Rattle.std.specs.Prelude.{◌≡◌, ℕ, ◌<◌, ◌≤◌, length, Bool, not, ◌||◌, IsTrue, List, [], ◌∷◌, ◌++◌, map, flat_map, codes}
use Rattle.std.specs.List.{list_all}
use Rattle.mm_lex.specs.declared.span.Span.{Span}
use Rattle.mm_lex.specs.Alphabet.{is_allowed, Name, name_eq, runs, word}
use Rattle.mm_lex.specs.Words.{is_word}

-- `$(` and `$)`
abbrev pub opener : Name
opener = codes "$("

abbrev pub closer : Name
closer = codes "$)"

-- whether the run neither begins nor ends a comment
abbrev pub is_plain : Name → Bool
is_plain w = not (name_eq w opener || name_eq w closer)

abbrev pub AllPlain : List ℕ → List Span → Type 0
AllPlain text spans = IsTrue (list_all (λ s. is_plain (word text s)) spans)

-- a comment and the tokens after it up to the next one: `begin` and `end` are its `$(` and `$)`,
-- `inside` the runs between them, `after` the tokens
pub record CommentAndTokens : Type 0 where
  pub begin : Span
  pub inside : List Span
  pub end : Span
  pub after : List Span

abbrev pub all_spans : CommentAndTokens → List Span
all_spans p = p.begin ∷ (p.inside ++ (p.end ∷ p.after))

pub record IsCommentAndTokens (text : List ℕ) (p : CommentAndTokens) : Type 0 where
  pub begins : word text p.begin ≡ opener
  pub inside : AllPlain text p.inside
  pub ends : word text p.end ≡ closer
  pub after : AllPlain text p.after

abbrev pub AreCommentsAndTokens : List ℕ → List CommentAndTokens → Type 0
AreCommentsAndTokens text [] = Unit {0}
AreCommentsAndTokens text (p ∷ ps) = IsCommentAndTokens text p × AreCommentsAndTokens text ps

-- the runs split into plain runs and whole comments; the plain runs outside the comments are the
-- tokens: `first` are those before the first comment, `parts` the comments, each with the tokens
-- after it
pub record SplitsInto (text : List ℕ) (spans tokens : List Span) : Type 0 where
  pub first : List Span
  pub parts : List CommentAndTokens
  pub whole : spans ≡ first ++ flat_map all_spans parts
  pub plain : AllPlain text first
  pub comments : AreCommentsAndTokens text parts
  pub outside : tokens ≡ first ++ flat_map (λ p. p.after) parts

-- each byte is allowed
abbrev pub HasOnlyAllowedBytes : List ℕ → Type 0
HasOnlyAllowedBytes text = IsTrue (list_all is_allowed text)

-- the tokens of the text, as spans
abbrev pub AreTokens : List ℕ → List Span → Type 0
AreTokens text tokens = HasOnlyAllowedBytes text × SplitsInto text (runs text) tokens

-- the bytes of the tokens
abbrev pub words : List ℕ → List Span → List Name
words text tokens = map (word text) tokens

-- the span is the place of a word of the text
pub record IsWordAt (text : List ℕ) (s : Span) : Type 0 where
  pub some : s.start < s.end
  pub within : s.end ≤ length text
  pub word : IsTrue (is_word (word text s))
