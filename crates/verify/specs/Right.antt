-- Right proofs.
-- Metamath, 4.2.6 and appendix B: the items spell a derivation of the statement's expression.
-- The code decides by one run over the items; the limit on the weight is this project's.
use Rattle.std.specs.Prelude.{◌≡◌, ℕ, ◌≤◌, IsTrue, List, [], Some}
use Rattle.verify.specs.Words.{Stmt, Database, stmt_at, expr_of, is_provable, Item}
use Rattle.verify.specs.declared.answer.Answer.{Answer}
use Rattle.verify.specs.declared.answer.Answer.TheVariants.{Proved, TooCostly, Wrong}
use Rattle.verify.specs.Derivations.{Derivation, node_count, depth}
use Rattle.verify.specs.Concludes.{Concludes}
use Rattle.verify.specs.Spells.{Spells}

-- the greatest weight of a right proof
abbrev pub weight_limit : ℕ
weight_limit = 67108864

-- the most nodes of a derivation that is returned
abbrev pub most_nodes : ℕ
most_nodes = 65536

-- the greatest depth of a derivation that is returned
abbrev pub most_depth : ℕ
most_depth = 1024

-- there is a `$p` at that position
pub record IsProvable (S : Database) (at : ℕ) (s : Stmt) : Type 0 where
  pub stands : stmt_at S at ≡ Some s
  pub provable : IsTrue (is_provable s)

-- the items spell this derivation of the statement at `at`
pub record Derives (S : Database) (at : ℕ) (items : List Item) (t : Derivation) : Type 0 where
  pub stmt : Stmt
  pub after : List Derivation
  pub weight : ℕ
  pub stands : stmt_at S at ≡ Some stmt
  pub spelled : Spells S at [] items t after weight
  pub concludes : Concludes S at t (expr_of stmt)
  pub light : weight ≤ weight_limit

-- the items are a right proof: they spell a derivation of the statement at `at`
abbrev pub IsRight : Database → ℕ → List Item → Type 0
IsRight S at items = (t : Derivation) × Derives S at items t

-- the meaning of the verifier's answer on whether P holds, where nothing is too costly
abbrev pub IsAnswerTo : Answer → Type 0 → Type 0
IsAnswerTo Proved P = P
IsAnswerTo Wrong P = ¬ P
IsAnswerTo TooCostly P = ⊥

-- the same where it may be too costly, which says nothing of P
abbrev pub IsAnswerIfAny : Answer → Type 0 → Type 0
IsAnswerIfAny Proved P = P
IsAnswerIfAny Wrong P = ¬ P
IsAnswerIfAny TooCostly P = Unit {0}

-- the derivation is small enough to be returned
abbrev pub IsSmall : Derivation → Type 0
IsSmall t = (node_count t ≤ most_nodes) × (depth t ≤ most_depth)
