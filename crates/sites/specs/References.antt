-- The cross references of a list of statements: for each statement, related positions.
-- Source: Metamath, 4.2.6 and appendix B.
-- The code goes over the statements once; here the list of each statement is defined by itself.
use Rattle.std.specs.Prelude.{◌≡◌, ◌↔◌, ℕ, suc, ◌<◌, false, List, [], length, get_or}
use Rattle.mm_read.specs.Statements.{Database}
use Rattle.library.specs.Uses.{Uses, IsUser, Rises, IsIn}

-- exactly the positions for which `Holds`, in ascending order, each once
pub record ArePositionsWhere (Holds : ℕ → Type 0) (positions : List ℕ) : Type 0 where
  pub rising : Rises 0 positions
  pub holding : (a : ℕ) → IsIn a positions ↔ Holds a

-- a list for each statement, in order: for the statement at p exactly the positions a with
-- `Relates p a`
pub record AreListsOf (S : Database) (Relates : ℕ → ℕ → Type 0) (lists : List (List ℕ)) : Type 0 where
  pub count : length lists ≡ length S
  pub each : (k : ℕ) → k < length S → ArePositionsWhere (Relates (suc k)) (get_or lists k [])

-- the `$a` that each statement rests on, and the `$p` whose proofs cite it
pub record AreReferences (S : Database) (axioms cited_by : List (List ℕ)) : Type 0 where
  pub axioms_listed : AreListsOf S (Uses S) axioms
  pub cited_by_listed : AreListsOf S (IsUser S false) cited_by
