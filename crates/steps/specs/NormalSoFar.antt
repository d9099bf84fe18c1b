-- The steps of a normal proof with unknown results.
-- Metamath, 4.3: the tokens that depend on no unknown result are a normal proof themselves.
use Rattle.std.specs.Prelude.{◌≡◌, ℕ, List, take}
use Rattle.proof_code.specs.Writes.{WritesFinishedNormal}
use Rattle.steps.specs.Words.{Name, Database, Item}
use Rattle.steps.specs.KnownPart.{IsKnownPart}
use Rattle.steps.specs.Rows.{steps_of}
use Rattle.steps.specs.SoFar.{AreStepsSoFar, IsDoneUpTo}
use Rattle.steps.specs.declared.known_part.KnownPart.{KnownPart}
use Rattle.steps.specs.declared.so_far.NormalSoFar.{NormalSoFar}

-- the steps of the known part, up to the first citation that cannot be done, and all results on the
-- stack after that part, known and unknown
pub record IsNormalSoFar (S : Database) (at : ℕ) (tokens : List Name) (shown : NormalSoFar) : Type 0 where
  pub limit : ℕ
  pub part : KnownPart
  pub known : IsKnownPart S at tokens limit part
  pub items : List Item
  pub written : WritesFinishedNormal part.tokens items
  pub steps : AreStepsSoFar S at (take shown.far.done items) (steps_of shown.far.table) shown.far.stack.items
  pub done : IsDoneUpTo S at items shown.far.done
  pub stack : part.stack.items ≡ shown.stack.items
