-- The laws of reading and writing.
-- Source: Metamath, 4.1; by these laws "the statements of a text" is well defined.
-- They relate the definitions that contracts cite, and say nothing of code.
use Rattle.std.specs.Prelude.{◌≡◌, ℕ, ◌⊎◌, Bool, true, ◌||◌, IsTrue, List, [], ◌∷◌, ◌++◌}
use Rattle.mm_lex.specs.Alphabet.{Name, is_white, is_empty_or_starts_white}
use Rattle.mm_read.specs.Statements.{Database, AreShaped, tokens_of}
use Rattle.mm_read.specs.Reads.{Reads, IsShapeFault}
use Rattle.mm_read.specs.Export.{export_of}

-- each list of tokens reads as at most one list of statements
abbrev pub OneStatementList : Type 0
OneStatementList = (S T : Database) → AreShaped S → AreShaped T → tokens_of S ≡ tokens_of T → S ≡ T

-- each list of tokens reads as a list of statements, or has a shape fault
abbrev pub StatementsOrFault : Type 0
StatementsOrFault =
    (tokens : List Name) → ((S : Database) × AreShaped S × (tokens_of S ≡ tokens)) ⊎ ((token : ℕ) × IsShapeFault tokens token)

-- each list of tokens has at most one shape fault
abbrev pub OneShapeFault : Type 0
OneShapeFault = (tokens : List Name) (t u : ℕ) → IsShapeFault tokens t → IsShapeFault tokens u → t ≡ u

-- the export form of statements reads as these statements
abbrev pub ExportReads : Type 0
ExportReads = (S : Database) → AreShaped S → Reads (export_of S) S

-- joining the texts does not make one word of two: the first is empty or ends with a white byte, or
-- the second is empty or begins with one
abbrev pub joins_no_words : List ℕ → List ℕ → Bool
joins_no_words [] other = true
joins_no_words (b ∷ []) other = is_white b || is_empty_or_starts_white other
joins_no_words (b ∷ c ∷ text) other = joins_no_words (c ∷ text) other

-- if each of two texts reads as statements and joining them does not make one word of two, the
-- joined text reads as the statements of the first followed by those of the second
abbrev pub JoinedReads : Type 0
JoinedReads = (text other : List ℕ) (S T : Database) → Reads text S → Reads other T → IsTrue (joins_no_words text other) → Reads (text ++ other) (S ++ T)
