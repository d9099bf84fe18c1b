use Rattle.synod.proofs.Words.{◌-◌, List, length, ap, ◌∙◌, arith, SlotReport, top_or_first, all_reports, pages_after_delivery, reports_of_pages}
use Rattle.synod.proofs.PageInvariant.{top_low}
use Rattle.synod.proofs.HighestReportsLemmas.{take_min, is_lead}
use Rattle.synod.proofs.leading.lead_posts.Goals as goal

pub overflow_sub-top : goal.overflow_sub-top
overflow_sub-top g c =
    let reports : List (SlotReport g.row.V.Denot) = all_reports (pages_after_delivery c.args.pages.now) c.args.heard.now in
    let all = ap (λ ps. reports_of_pages ps) c.deref.ensures.value ∙ c.in_ok-all.ensures in
    let top = c.top_of_reports-top.ensures ∙ ap (λ (rs : List (SlotReport g.row.V.Denot)). top_or_first c.args.first rs) all in
    let low = top_low c.args.first reports c.requires.first c.requires.reports in
    omega (arith, top, low)

pub post_waiting-requires : goal.post_waiting-requires
post_waiting-requires g c =
    let reports : List (SlotReport g.row.V.Denot) = all_reports (pages_after_delivery c.args.pages.now) c.args.heard.now in
    let all = ap (λ ps. reports_of_pages ps) c.deref.ensures.value ∙ c.in_ok-all.ensures in
    let top = c.top_of_reports-top.ensures ∙ ap (λ (rs : List (SlotReport g.row.V.Denot)). top_or_first c.args.first rs) all in
    let low = top_low c.args.first reports c.requires.first c.requires.reports in
    let part = take_min c.args.waiting.now (1048576 - c.top_of_reports-top.result) c.lesser-proposed.result c.lesser-proposed.ensures in
    let count = ap (λ ys. length ys) part.0 ∙ part.2 in
    omega (arith, top, low, count, c.lesser-proposed.ensures)

pub returns : goal.returns
returns g c =
    let reports : List (SlotReport g.row.V.Denot) = all_reports (pages_after_delivery c.args.pages.now) c.args.heard.now in
    let all = ap (λ ps. reports_of_pages ps) c.deref.ensures.value ∙ c.in_ok-all.ensures in
    let all2 = ap (λ ps. reports_of_pages ps) c.deref-2.ensures.value ∙ c.in_ok-all.ensures in
    let top = c.top_of_reports-top.ensures ∙ ap (λ (rs : List (SlotReport g.row.V.Denot)). top_or_first c.args.first rs) all in
    is_lead c.args.me c.args.weights.now c.args.ballot c.args.first reports c.args.waiting.now c.top_of_reports-top.result c.lesser-proposed.result (reports_of_pages c.deref-2.result.now) c.new-posts.result.items c.post_reported_values.new.posts.items c.post_waiting.new.posts.items
    top c.lesser-proposed.ensures all2 c.new-posts.ensures.items c.in_ok-post_reported_values.ensures c.in_ok-post_waiting.ensures
