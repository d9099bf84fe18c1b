-- Extracts of a database.
-- Source: this project's profile; Metamath, 4.2 (what makes a database good).
-- The code chooses statements, checks the choice, and returns the whole database if the choice is
-- not enough.
use Rattle.std.specs.Prelude.{◌≡◌, ℕ, List}
use Rattle.std.specs.List.{AllByRecursion}
use Rattle.mm_lex.specs.Alphabet.{Name}
use Rattle.mm_read.specs.Statements.{Database}
use Rattle.mm_read.specs.Export.{export_of}
use Rattle.mm_read.specs.Reads.{Reads}
use Rattle.library.specs.Good.{Good}
use Rattle.extract.specs.Parts.{IsPartOf, HasSameAssertion}

-- T is a part of S, is good, and has each of these assertions as in S
pub record AreExtract (S : Database) (labels : List Name) (T : Database) : Type 0 where
  pub good : Good T
  pub part : IsPartOf T S
  pub assertions : AllByRecursion (HasSameAssertion S T) labels

-- the text is the export form of such an extract, and reads as it
abbrev pub IsExtract : Database → List Name → List ℕ → Type 0
IsExtract S labels text = (T : Database) × (text ≡ export_of T) × Reads text T × AreExtract S labels T
