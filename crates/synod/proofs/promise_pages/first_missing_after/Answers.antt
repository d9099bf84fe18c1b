use Rattle.synod.proofs.Words.{◌∙◌, ap, sym, arith, List, Option, length-map, SlotsView, front_of, SlotReport, page_of, pages_from, entries_of}
use Rattle.synod.proofs.AcceptedLemmas.{none_is}
use Rattle.synod.proofs.PagesWithDeliveredLemmas.{with_had, pages_new, some_is}
use Rattle.synod.proofs.promise_pages.first_missing_after.Goals as goal

pub returns-then-is_some : goal.returns-then-is_some
returns-then-is_some g c = λ reports.
    ap (λ (ps : List (List (Option (List (SlotReport g.row.V.Denot))))). front_of (pages_from ps c.args.node))
    (with_had (entries_of c.args.pages.now) c.args.node c.args.page reports (some_is c.get.result (page_of (entries_of c.args.pages.now) c.args.node c.args.page) c.get.ensures c.is_some.result c.is_some.ensures c.if-is_some.true))
    ∙ sym c.first_missing.ensures

pub returns-else-is_some : goal.returns-else-is_some
returns-else-is_some g c = λ reports.
    let count = length-map c.args.pages.now (λ (m : SlotsView (List (SlotReport g.row.V.Denot))). m.entries) in
    ap (λ (m : List (Option (List (SlotReport g.row.V.Denot)))). front_of m)
    (pages_new (entries_of c.args.pages.now) c.args.node c.args.page reports
    (none_is c.get.result (page_of (entries_of c.args.pages.now) c.args.node c.args.page) _ c.is_some.result c.get.ensures c.is_some.ensures c.if-is_some.false)
    (omega (arith, count, c.requires.node)))
    ∙ c.first_missing_with.ensures reports
