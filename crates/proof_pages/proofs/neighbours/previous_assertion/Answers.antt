use Rattle.std.proofs.Common.{arith, refl, sym}
use Rattle.proof_pages.proofs.PositionLemmas.{previous_found, previous_on}
use Rattle.proof_pages.proofs.neighbours.previous_assertion.Goals as goal

pub returns-then-is_assertion_at : goal.returns-then-is_assertion_at
returns-then-is_assertion_at c =
    previous_found c.args.statements.now c.loop-position.position _ c.args.at (omega (arith, c.loop-position-test.true)) refl c.loop-position.invariant (sym c.if-is_assertion_at.ensures)

pub loop-position-preserved : goal.loop-position-preserved
loop-position-preserved c =
    previous_on c.args.statements.now c.loop-position.position _ c.args.at (omega (arith, c.loop-position-test.true)) refl c.loop-position.invariant (sym c.if-is_assertion_at.ensures)
