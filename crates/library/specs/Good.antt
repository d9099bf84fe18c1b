-- Proved statements, and good lists of statements.
-- Source: Metamath, 4.2 and appendix B: each statement obeys the rules, and each `$p` has a right
-- proof.
-- The code judges what a text adds; here the whole list is judged from its beginning.
use Rattle.std.specs.Prelude.{ℕ, List}
use Rattle.library.specs.Words.{Stmt, Database, bares, proof_of, AllLegal, Item, Writes, mandatory_labels, IsProvable, IsRight}

-- the tokens of the `$p` at a position write items that are right (`bares` leaves the proofs out:
-- neither frames nor derivations depend on them)
pub record IsProved (S : Database) (at : ℕ) : Type 0 where
  pub stmt : Stmt
  pub items : List Item
  pub provable : IsProvable S at stmt
  pub written : Writes (proof_of stmt) (mandatory_labels (bares S) at stmt) items
  pub right : IsRight (bares S) at items

-- each statement is legal, the blocks close, and each `$p` is proved
pub record Good (S : Database) : Type 0 where
  pub legal : AllLegal S
  pub proved : (at : ℕ) (s : Stmt) → IsProvable S at s → IsProved S at
