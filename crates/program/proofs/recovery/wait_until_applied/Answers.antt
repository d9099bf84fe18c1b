-- What was found by a question of all nodes.
use Rattle.program.proofs.HealthLemmas.{was_health}
use Rattle.program.proofs.recovery.wait_until_applied.Goals as goal

pub returns-in-Some-clause-applied : goal.returns-in-Some-clause-applied
returns-in-Some-clause-applied g c = (
  c.in_ok-health.health,
  was_health c.args.desk.now.seen c.loop-turn.desk.seen c.health.new.self.seen c.args.desk.now.node_count c.loop-turn.desk.node_count c.in_ok-health.health
      c.loop-turn.invariant.seen c.loop-turn.invariant.nodes c.in_ok-health.ensures.health,
  c.in-Some.ensures,
)
