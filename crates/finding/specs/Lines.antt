-- The lines of the assertions that a search finds.
-- Source: this project's command `find`.
-- The code appends one line after another.
use Rattle.std.specs.Prelude.{◌≡◌, ℕ, ◌+◌, ◌⊎◌, Bool, true, false, List, [], ◌∷◌, ◌++◌, codes, Option, Some, None, if◌then◌else◌}
use Rattle.mm_lex.specs.Words.{spaced}
use Rattle.mm_read.specs.declared.stmt.Stmt.{Stmt}
use Rattle.mm_read.specs.declared.stmt.Stmt.TheVariants.{Axiom, Prove}
use Rattle.mm_read.specs.Statements.{Expr, Database}
use Rattle.scope.specs.Active.{bares, before}
use Rattle.frame.specs.FrameOf.{hypotheses}
use Rattle.finding.specs.Matching.{essential_at}
use Rattle.finding.specs.declared.query.SearchQuery.{SearchQuery}
use Rattle.finding.specs.declared.query.SearchQuery.TheVariants.{WithHypotheses}

-- the label of an assertion and a space; nothing for another statement
abbrev pub label_start : Stmt → List ℕ
label_start (Axiom label expr) = label ++ codes " "
label_start (Prove label expr proof) = label ++ codes " "
label_start s = []

-- the expression of an assertion, and the end of the line
abbrev pub expr_end : Stmt → List ℕ
expr_end (Axiom label expr) = spaced expr ++ codes "\n"
expr_end (Prove label expr proof) = spaced expr ++ codes "\n"
expr_end s = []

-- the label and the expression of an assertion; nothing for another statement
abbrev pub found_line : Stmt → List ℕ
found_line s = label_start s ++ expr_end s

-- an expression of a list that begins with it (`first`), or that goes on with it
abbrev pub listed_expr : Bool → Expr → List ℕ
listed_expr first e = (if first then [] else codes " & ") ++ spaced e

-- the end of a list, unless it is empty
abbrev pub list_end : Bool → List ℕ
list_end none = if none then [] else codes " => "

-- the same at a position where there may be no `$e`
abbrev pub listed_essential : Bool → Option Expr → List ℕ
listed_essential first None = []
listed_essential first (Some e) = listed_expr first e

abbrev pub is_still_first : Bool → Option Expr → Bool
is_still_first first None = first
is_still_first first (Some e) = false

-- the expressions of the `$e` at these positions, with ` & ` between two, and ` => ` after them
abbrev pub listed_essentials : Database → Bool → List ℕ → List ℕ
listed_essentials S first [] = list_end first
listed_essentials S first (position ∷ positions) =
    listed_essential first (essential_at S position) ++ listed_essentials S (is_still_first first (essential_at S position)) positions

-- the line of the assertion at an index with its mandatory `$e`
abbrev pub line_with_essentials : Database → ℕ → Stmt → List ℕ
line_with_essentials S index s =
    label_start s ++ listed_essentials S true (hypotheses (before (bares S) (index + 1)) s) ++ expr_end s

-- the lines have the `$e` of their assertions if hypotheses are searched
abbrev pub shows_essentials : SearchQuery → Bool
shows_essentials (WithHypotheses p) = true
shows_essentials query = false

-- the line of the assertion at an index
abbrev pub line_of : Database → SearchQuery → ℕ → Stmt → List ℕ
line_of S query index s = if shows_essentials query then line_with_essentials S index s else found_line s

-- a line if its statement is found, else nothing
abbrev pub line_if : Bool → List ℕ → List ℕ
line_if found line = if found then line else []

-- the line if the statement matches (`matches`), else nothing
abbrev pub IsLineIf : Type 0 → List ℕ → List ℕ → Type 0
IsLineIf matches wanted line = (matches × (line ≡ wanted)) ⊎ ((matches → ⊥) × (line ≡ []))

-- the lines (`line_at`) of exactly the statements that match (`matches`), in order; `index` is that
-- of the first statement
abbrev pub AreFoundLines : (ℕ → Stmt → Type 0) → (ℕ → Stmt → List ℕ) → ℕ → Database → List ℕ → Type 0
AreFoundLines matches line_at index [] lines = lines ≡ []
AreFoundLines matches line_at index (s ∷ S) lines =
    (line : List ℕ) × (rest : List ℕ) × (lines ≡ line ++ rest) × IsLineIf (matches index s) (line_at index s) line
    × AreFoundLines matches line_at (index + 1) S rest
