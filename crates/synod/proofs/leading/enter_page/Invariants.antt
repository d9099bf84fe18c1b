use Rattle.synod.proofs.Words.{◌≡◌, ◌++◌, List, length, take, SlotReport, IsHighestTable}
use Rattle.synod.proofs.leading.enter_page.Given as goal

abbrev pub invariant-loop-report : goal.invariant-loop-report
invariant-loop-report g l = record {
  highest : (reports : List (SlotReport g.row.V.Denot)) → IsHighestTable l.first l.fn.table.items reports → IsHighestTable l.first l.table.items (reports ++ take l.report-index l.page);
  slots : length l.table.items ≡ length l.fn.table.items;
}
