-- What `find` prints: the lines of the assertions that match a search.
-- Source: this project's command `find`.
-- The code reads the descriptions of the text only for a search in them.
use Rattle.std.specs.Prelude.{◌≡◌, List, [], ℕ, map, Option}
use Rattle.mm_lex.specs.declared.span.Span.{Span}
use Rattle.mm_read.specs.Reads.{Reads}
use Rattle.mm_read.specs.Statements.{Database}
use Rattle.places.specs.Descriptions.{AreDescriptions}
use Rattle.finding.specs.Lines.{AreFoundLines, line_of}
use Rattle.finding.specs.Matches.{part_of}
use Rattle.finding.specs.Matching.{IsMatch}
use Rattle.finding.specs.PatternWords.{words_in}
use Rattle.finding.specs.declared.query.SearchQuery.{SearchQuery}
use Rattle.finding.specs.declared.query.SearchQuery.TheVariants.{Pattern, Words}

-- the spans in which a search reads: for words the descriptions of the statements of the text
abbrev pub AreSearched : SearchQuery → List ℕ → List (Option Span) → Type 0
AreSearched (Words words) text spans = (S : Database) → Reads text S → AreDescriptions text S spans
AreSearched query text spans = spans ≡ []

-- the lines of exactly the assertions that match, in order
abbrev pub AreLinesOf : List ℕ → Database → SearchQuery → List ℕ → Type 0
AreLinesOf text S query lines =
    (spans : List (Option Span)) × AreSearched query text spans × AreFoundLines (IsMatch text S spans query) (line_of S query) 0 S lines

-- the lines of exactly the assertions whose expression has the pattern, in order
abbrev pub ArePatternLines : Database → List ℕ → List ℕ → Type 0
ArePatternLines S pattern lines = AreLinesOf [] S (Pattern (map part_of (words_in pattern))) lines
