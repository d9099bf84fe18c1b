use Rattle.synod.proofs.Words.{◌≡◌, ◌++◌, drop, pages_after_delivery, all_reports, reports_of_pages}
use Rattle.synod.proofs.leading.heard_pages.Given as goal

abbrev pub invariant-loop-node : goal.invariant-loop-node
invariant-loop-node g l = reports_of_pages l.all.items ++ all_reports (pages_after_delivery l.pages) (drop l.node-index l.heard) ≡ all_reports (pages_after_delivery l.pages) l.heard
