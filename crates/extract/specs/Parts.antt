-- A part of a database, and an assertion that is the same in the part and in the whole.
-- Source: Metamath, 4.2.7: the frame of an assertion is its mandatory hypotheses, its disjoint
-- variables and its expression.
-- The code goes through both databases once, in parallel.
use Rattle.std.specs.Prelude.{◌≡◌, ℕ, IsTrue, List, [], ◌∷◌, map, Option}
use Rattle.mm_lex.specs.Alphabet.{Name}
use Rattle.mm_read.specs.declared.stmt.Stmt.{Stmt}
use Rattle.mm_read.specs.Statements.{Database}
use Rattle.scope.specs.Active.{bares, before, stmt_at, is_assertion}
use Rattle.frame.specs.Citations.{Carries}
use Rattle.frame.specs.FrameOf.{hypotheses, is_mandatory_pair}

-- the first database is some of the statements of the second, in the same order
pub data IsPartOf : Database → Database → Type 0 where
  nothing : IsPartOf [] []
  keeps : {s : Stmt} {part whole : Database} → IsPartOf part whole → IsPartOf (s ∷ part) (s ∷ whole)
  skips : {s : Stmt} {part whole : Database} → IsPartOf part whole → IsPartOf part (s ∷ whole)

-- the mandatory hypotheses of the assertion at a position, as statements
abbrev pub hypotheses_at : Database → ℕ → Stmt → List (Option Stmt)
hypotheses_at S at s = map (stmt_at S) (hypotheses (before (bares S) at) s)

-- both databases have an assertion with the label, with the same expression, proof, mandatory
-- hypotheses and mandatory pairs
pub record HasSameAssertion (whole part : Database) (label : Name) : Type 0 where
  pub stmt : Stmt
  pub whole_position : ℕ
  pub part_position : ℕ
  pub in_whole : Carries whole whole_position stmt label
  pub in_part : Carries part part_position stmt label
  pub assertion : IsTrue (is_assertion stmt)
  pub hypotheses : hypotheses_at whole whole_position stmt ≡ hypotheses_at part part_position stmt
  pub pairs : (x y : Name) → is_mandatory_pair (before (bares whole) whole_position) stmt x y ≡ is_mandatory_pair (before (bares part) part_position) stmt x y
