use Rattle.net.proofs.CrashLemmas.{crashes_only_restart, logs_agree_across_crash}
use Rattle.net.proofs.UnderWayLemmas.{crashes_leave_events}
use Rattle.net.proofs.laws.crash.Goals as goal

pub returns-clause-left : goal.returns-clause-left
returns-clause-left g c = crashes_leave_events

pub returns-clause-one_run : goal.returns-clause-one_run
returns-clause-one_run g c = crashes_only_restart

pub returns-clause-logs_agree : goal.returns-clause-logs_agree
returns-clause-logs_agree g c = logs_agree_across_crash
