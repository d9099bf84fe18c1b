use Rattle.synod.proofs.Words.{◌≡◌, ◌≤◌, ◌+◌, ◌-◌, ℕ, length, take, slice_index_or, None, reports_of_pages, IsHighestTable}
use Rattle.synod.proofs.leading.highest_reports.Given as goal

abbrev pub invariant-loop-slot : goal.invariant-loop-slot
invariant-loop-slot g l = record {
  count : length l.table.items + l.first ≡ l._slot;
  within : length l.table.items ≤ l.top - l.first;
  none : (k : ℕ) → slice_index_or l.table.items k None ≡ None;
}

abbrev pub invariant-loop-page : goal.invariant-loop-page
invariant-loop-page g l = record {
  highest : IsHighestTable l.first l.table.items (reports_of_pages (take l.page-index l.pages));
  slots : length l.table.items ≡ l.top - l.first;
}
