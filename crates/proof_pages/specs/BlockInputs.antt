-- The statement to show is the one at the given position.
-- Source: this project's command `show`.
-- The code receives both the statement and its position.
use Rattle.std.specs.Prelude.{◌≡◌, Some}
use Rattle.scope.specs.Active.{bares, stmt_at}
use Rattle.proof_pages.specs.declared.block_input.BlockInput.{BlockInput}

-- the frames are those of the statements, and the statement is the one at the position
pub record IsBlockInput (input : BlockInput) : Type 0 where
  pub same : input.frames.now.statements ≡ bares input.statements.now
  pub stands : stmt_at input.statements.now input.position ≡ Some input.statement.now
