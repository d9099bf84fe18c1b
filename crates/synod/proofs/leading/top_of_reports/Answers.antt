use Rattle.synod.proofs.Words.{◌+◌, List, drop, ap, ◌∙◌, subst, arith, AllByRecursion, SlotReport, IsReport, top_or_zero, reports_of_pages}
use Rattle.synod.proofs.HighestReportsLemmas.{pages_next, all_left, all_right, top_or_zero-append}
use Rattle.synod.proofs.leading.top_of_reports.Goals as goal

pub top_with_page-top-requires : goal.top_with_page-top-requires
top_with_page-top-requires g c =
    let next = pages_next c.args.pages.now c.loop-reports.reports-index c.reports-item.result c.reports-item.is (omega arith) in
    all_left IsReport c.reports-item.result.now (reports_of_pages (drop (c.loop-reports.reports-index + 1) c.args.pages.now))
    (subst (λ (rs : List (SlotReport g.row.V.Denot)). AllByRecursion IsReport rs) next c.loop-reports.invariant.low)

pub loop-reports-preserved : goal.loop-reports-preserved
loop-reports-preserved g c =
    let next = pages_next c.args.pages.now c.loop-reports.reports-index c.reports-item.result c.reports-item.is (omega arith) in
    let rest : List (SlotReport g.row.V.Denot) = reports_of_pages (drop (c.loop-reports.reports-index + 1) c.args.pages.now) in
    let parts = ap (λ (rs : List (SlotReport g.row.V.Denot)). top_or_zero rs) next ∙ top_or_zero-append c.reports-item.result.now rest in
    record {
      low = all_right IsReport c.reports-item.result.now rest (subst (λ (rs : List (SlotReport g.row.V.Denot)). AllByRecursion IsReport rs) next c.loop-reports.invariant.low);
      top = omega (arith, parts, c.loop-reports.invariant.top, c.top_with_page-top.ensures);
    }
