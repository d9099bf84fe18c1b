-- The assertions that a search finds.
-- Source: this project's command `find`, after `search` of the program metamath.
-- The code carries the `$e` with the pattern from statement to statement; here each assertion is
-- judged by its frame.
use Rattle.std.specs.Prelude.{ℕ, ◌+◌, ◌⊎◌, List, [], ◌∷◌, Option, Some, None, IsTrue, option_and_then, slice_get}
use Rattle.mm_lex.specs.declared.span.Span.{Span}
use Rattle.mm_lex.specs.Alphabet.{Name, word}
use Rattle.mm_read.specs.declared.stmt.Stmt.{Stmt}
use Rattle.mm_read.specs.declared.stmt.Stmt.TheVariants.{Ess, Axiom, Prove}
use Rattle.mm_read.specs.Statements.{Expr, Database}
use Rattle.scope.specs.Active.{bares, before, stmt_at, is_assertion}
use Rattle.frame.specs.FrameOf.{hypotheses}
use Rattle.finding.specs.Matches.{Part, Matches}
use Rattle.finding.specs.DescriptionWords.{HasWords}
use Rattle.finding.specs.LabelPatterns.{IsLike}
use Rattle.finding.specs.declared.query.SearchQuery.{SearchQuery}
use Rattle.finding.specs.declared.query.SearchQuery.TheVariants.{Pattern, WithHypotheses, Words, Labels}

-- the expression of an assertion
abbrev pub assertion_expr : Stmt → Option Expr
assertion_expr (Axiom label expr) = Some expr
assertion_expr (Prove label expr proof) = Some expr
assertion_expr s = None

-- the label of an assertion, empty for another statement
abbrev pub assertion_label : Stmt → Name
assertion_label (Axiom label expr) = label
assertion_label (Prove label expr proof) = label
assertion_label s = []

-- the expression of an `$e`
abbrev pub essential_expr : Stmt → Option Expr
essential_expr (Ess label expr) = Some expr
essential_expr s = None

-- the expression of the `$e` at a position
abbrev pub essential_at : Database → ℕ → Option Expr
essential_at S position = option_and_then essential_expr (stmt_at S position)

-- there is an expression, and it has the pattern
abbrev pub HasPattern : List Part → Option Expr → Type 0
HasPattern p None = ⊥
HasPattern p (Some e) = Matches p e

-- one of the statements at these positions is an `$e` with the pattern
abbrev pub SomeEssentialHas : List Part → Database → List ℕ → Type 0
SomeEssentialHas p S [] = ⊥
SomeEssentialHas p S (position ∷ positions) = HasPattern p (essential_at S position) ⊎ SomeEssentialHas p S positions

-- the bytes of a span, or none if there is no span
abbrev pub description_or_empty : List ℕ → Option (Option Span) → List ℕ
description_or_empty text None = []
description_or_empty text (Some None) = []
description_or_empty text (Some (Some s)) = word text s

-- the description of the statement at an index
abbrev pub description_at : List ℕ → List (Option Span) → ℕ → List ℕ
description_at text descriptions index = description_or_empty text (slice_get descriptions index)

-- the assertion at an index matches
abbrev pub AssertionMatches : List ℕ → Database → List (Option Span) → SearchQuery → ℕ → Stmt → Type 0
AssertionMatches text S descriptions (Pattern p) index s = HasPattern p (assertion_expr s)
AssertionMatches text S descriptions (WithHypotheses p) index s = HasPattern p (assertion_expr s) ⊎ SomeEssentialHas p S (hypotheses (before (bares S) (index + 1)) s)
AssertionMatches text S descriptions (Words ws) index s = HasWords (description_at text descriptions index) ws
AssertionMatches text S descriptions (Labels p) index s = IsLike p (assertion_label s)

-- the statement at an index is an assertion that matches
abbrev pub IsMatch : List ℕ → Database → List (Option Span) → SearchQuery → ℕ → Stmt → Type 0
IsMatch text S descriptions query index s = IsTrue (is_assertion s) × AssertionMatches text S descriptions query index s
