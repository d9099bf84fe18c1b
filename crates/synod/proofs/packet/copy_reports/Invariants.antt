use Rattle.std.proofs.Common.{◌≡◌, take}
use Rattle.synod.proofs.packet.copy_reports.Given as goal

abbrev pub invariant-loop-report : goal.invariant-loop-report
invariant-loop-report g l = l.all.items ≡ take l.report-index l.report-items
