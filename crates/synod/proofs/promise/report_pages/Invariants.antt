use Rattle.synod.proofs.ReportPages.{Gathers}
use Rattle.synod.proofs.promise.report_pages.Given as goal

abbrev pub invariant-loop-slot : goal.invariant-loop-slot
invariant-loop-slot g l = Gathers l.first l.slot l.stored.kept.accepted l.pages.items l.page.items
