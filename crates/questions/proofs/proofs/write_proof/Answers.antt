use Rattle.std.specs.Prelude.{◌≡◌, ℕ, ◌≤◌, length}
use Rattle.mm_read.specs.declared.stmt.Stmt.{Stmt}
use Rattle.mm_read.specs.Statements.{Database}
use Rattle.scope.specs.Active.{bare, bares}
use Rattle.scope.proofs.StatementPlaces.{stands-within}
use Rattle.verify.specs.Right.{IsProvable}
use Rattle.verify.proofs.RightLemmas.{provable-bare}
use Rattle.questions.proofs.proofs.write_proof.Goals as goal

within : (S F : Database) (at : ℕ) (s : Stmt) → F ≡ bares S → IsProvable S at s → (1 ≤ at) × (at ≤ length F)
within S F at s same p = let provable = provable-bare S F at s same p in stands-within F at (bare s) provable.stands

pub write_steps-requires-clause-at : goal.write_steps-requires-clause-at
write_steps-requires-clause-at g c =
    let named = c.in_ok-at.ensures.items.named in
    within c.args.library.now.replica.statements c.frames-frames.result.now.statements c.in_ok-at.at named.stmt c.frames-frames.ensures.same named.provable

pub write_steps-requires-clause-provable : goal.write_steps-requires-clause-provable
write_steps-requires-clause-provable g c =
    let named = c.in_ok-at.ensures.items.named in (
      bare named.stmt,
      provable-bare c.args.library.now.replica.statements c.frames-frames.result.now.statements c.in_ok-at.at named.stmt c.frames-frames.ensures.same named.provable,
    )
