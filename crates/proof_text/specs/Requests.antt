-- A request for the text of a proof names a `$p` of the statements, and has their frames.
use Rattle.std.specs.Prelude.{◌≡◌}
use Rattle.mm_read.specs.declared.stmt.Stmt.{Stmt}
use Rattle.scope.specs.Active.{bares}
use Rattle.verify.specs.Right.{IsProvable}
use Rattle.proof_text.specs.declared.request.TextRequest.{TextRequest}

-- the frames are those of the statements, and a `$p` is at the position
pub record IsRequest (request : TextRequest) : Type 0 where
  pub same : request.frames.now.statements ≡ bares request.statements.now
  pub stmt : Stmt
  pub provable : IsProvable request.statements.now request.at stmt
