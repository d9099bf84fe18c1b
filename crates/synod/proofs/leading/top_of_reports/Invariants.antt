use Rattle.synod.proofs.Words.{◌≡◌, max, drop, AllByRecursion, IsReport, top_or_zero, reports_of_pages}
use Rattle.synod.proofs.leading.top_of_reports.Given as goal

abbrev pub invariant-loop-reports : goal.invariant-loop-reports
invariant-loop-reports g l = record {
  low : AllByRecursion IsReport (reports_of_pages (drop l.reports-index l.pages));
  top : max l.top (top_or_zero (reports_of_pages (drop l.reports-index l.pages))) ≡ top_or_zero (reports_of_pages l.pages);
}
