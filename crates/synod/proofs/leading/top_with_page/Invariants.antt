use Rattle.synod.proofs.Words.{◌≡◌, max, drop, AllByRecursion, IsReport, top_or_zero}
use Rattle.synod.proofs.leading.top_with_page.Given as goal

abbrev pub invariant-loop-report : goal.invariant-loop-report
invariant-loop-report g l = record {
  low : AllByRecursion IsReport (drop l.report-index l.reports);
  most : max l.most (top_or_zero (drop l.report-index l.reports)) ≡ max l.top (top_or_zero l.reports);
}
