-- Tokens that write a right proof.
-- Metamath, 4.2.6 and appendix B: the mandatory hypotheses come first in the list of labels of a
-- compressed proof.
-- The code knows a mandatory hypothesis by its position.
use Rattle.std.specs.Prelude.{ℕ, List, [], map, Option, Some, None, unwrap_or}
use Rattle.verify.specs.Words.{Name, Stmt, Database, before, stmt_at, label_of, hypotheses, Item, Writes}
use Rattle.verify.specs.Right.{IsProvable, IsRight}

-- the label of a statement, empty if it has none
abbrev pub label_or_empty : Option Stmt → Name
label_or_empty None = []
label_or_empty (Some s) = unwrap_or (label_of s) []

-- the labels of the mandatory hypotheses of the assertion s at a position, in order
abbrev pub mandatory_labels : Database → ℕ → Stmt → List Name
mandatory_labels S at s = map (λ i. label_or_empty (stmt_at S i)) (hypotheses (before S at) s)

-- the tokens write items, under the mandatory labels of the `$p` at a position, that are a right
-- proof of it
pub record Proves (S : Database) (at : ℕ) (tokens : List Name) : Type 0 where
  pub stmt : Stmt
  pub items : List Item
  pub provable : IsProvable S at stmt
  pub written : Writes tokens (mandatory_labels S at stmt) items
  pub right : IsRight S at items
