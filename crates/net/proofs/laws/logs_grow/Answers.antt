use Rattle.net.proofs.LogsGrow.{logs_only_grow, restart_empties_log}
use Rattle.net.proofs.laws.logs_grow.Goals as goal

pub returns-clause-grows : goal.returns-clause-grows
returns-clause-grows g c = logs_only_grow

pub returns-clause-restart : goal.returns-clause-restart
returns-clause-restart g c = restart_empties_log
