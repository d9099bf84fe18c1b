-- The health that was asked for, and the bytes of the files.
use Rattle.std.proofs.Common.{arith}
use Rattle.program.proofs.desk_answers.AnsweringDesk.push_health.Goals as goal

pub returns : goal.returns
returns g c = (
  c.in_ok-health.health,
  c.as_slice.result.now,
  c.in_ok-health.ensures.health,
  omega (arith, c.as_slice.ensures.len, c.in_ok-stored.ensures),
  c.in_ok-push_health.ensures,
)
