-- The descriptions of the statements of a text: for each statement, the last comment before its
-- first token and after the statement before it.
-- Source: Metamath, 4.4 (a description is the comment right before the label).
-- The code goes once over the runs; here the text is split at its comments, and each token is
-- paired with the comment right before it.
use Rattle.std.specs.Prelude.{◌≡◌, ℕ, List, [], ◌∷◌, ◌++◌, length, drop, flat_map, Option, Some, None}
use Rattle.mm_lex.specs.declared.span.Span.{Span}
use Rattle.mm_lex.specs.Alphabet.{runs}
use Rattle.mm_lex.specs.Tokens.{CommentAndTokens, SplitsInto}
use Rattle.mm_read.specs.Statements.{Database, stmt_tokens}

-- the span of the contents of a comment, between its delimiters
abbrev pub contents : CommentAndTokens → Span
contents p = record { start = p.begin.end; end = p.end.start }

-- the comment right before each of these tokens: `comment` for the first of these tokens, none for
-- each other one
abbrev pub comments_before : Option Span → List Span → List (Option Span)
comments_before comment [] = []
comments_before comment (t ∷ tokens) = comment ∷ comments_before None tokens

-- the comment right before each of the tokens that follow a comment
abbrev pub comments_in : CommentAndTokens → List (Option Span)
comments_in p = comments_before (Some (contents p)) p.after

-- the comment right before each token of a text
abbrev pub comments_of : List Span → List CommentAndTokens → List (Option Span)
comments_of first parts = comments_before None first ++ flat_map comments_in parts

-- the first element of a list, or none if it is empty
abbrev pub first_of : List (Option Span) → Option Span
first_of [] = None
first_of (comment ∷ comments) = comment

-- the comment before the first token of each statement
abbrev pub statement_comments : Database → List (Option Span) → List (Option Span)
statement_comments [] comments = []
statement_comments (s ∷ S) comments = first_of comments ∷ statement_comments S (drop (length (stmt_tokens s)) comments)

-- the list has the descriptions of these statements in the text; the clause of `descriptions`
-- supposes that the text reads as them
abbrev pub AreDescriptions : List ℕ → Database → List (Option Span) → Type 0
AreDescriptions text S list = (tokens : List Span) × (split : SplitsInto text (runs text) tokens) × (list ≡ statement_comments S (comments_of split.first split.parts))
