use Rattle.printed.proofs.Words.{◌≡◌, ◌++◌, take, flat_map, report_text}
use Rattle.printed.proofs.packets.push_reports.Given as goal

abbrev pub invariant-loop-report : goal.invariant-loop-report
invariant-loop-report l = l.text.items ≡ l.initial.text.items ++ flat_map report_text (take l.report-index l.reports)
