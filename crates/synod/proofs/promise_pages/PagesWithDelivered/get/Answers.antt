use Rattle.synod.proofs.Words.{◌∙◌, sym, inl, inr, arith, List, length-map, SlotsView, SlotReport, page_of, entries_of, pages_after_delivery}
use Rattle.synod.proofs.AcceptedLemmas.{none_is}
use Rattle.synod.proofs.PagesWithDeliveredLemmas.{page_new, page_other, match_stays}
use Rattle.synod.proofs.promise_pages.PagesWithDelivered.get.Goals as goal

pub returns-then-is_some : goal.returns-then-is_some
returns-then-is_some g c =
    let count = length-map c.args.self.now.pages.now (λ (m : SlotsView (List (SlotReport g.row.V.Denot))). m.entries) in
    match_stays (entries_of c.args.self.now.pages.now) c.args.self.now.node c.args.self.now.page c.args.self.now.reports.now c.args.node c.args.page c.get-received.result c.get-received.ensures c.is_some.result c.is_some.ensures c.if-is_some.true (omega (arith, count, c.requires))

pub returns-then-node-self : goal.returns-then-node-self
returns-then-node-self g c =
    let count = length-map c.args.self.now.pages.now (λ (m : SlotsView (List (SlotReport g.row.V.Denot))). m.entries) in
    page_other (entries_of c.args.self.now.pages.now) c.args.self.now.node c.args.self.now.page c.args.self.now.reports.now c.args.node c.args.page (inl c.if-node-self.true) (omega (arith, count, c.requires))
    ∙ none_is c.get-received.result (page_of (entries_of c.args.self.now.pages.now) c.args.node c.args.page) _ c.is_some.result c.get-received.ensures c.is_some.ensures c.if-is_some.false

pub returns-then-page-self : goal.returns-then-page-self
returns-then-page-self g c =
    let count = length-map c.args.self.now.pages.now (λ (m : SlotsView (List (SlotReport g.row.V.Denot))). m.entries) in
    page_other (entries_of c.args.self.now.pages.now) c.args.self.now.node c.args.self.now.page c.args.self.now.reports.now c.args.node c.args.page (inr c.if-page-self.true) (omega (arith, count, c.requires))
    ∙ none_is c.get-received.result (page_of (entries_of c.args.self.now.pages.now) c.args.node c.args.page) _ c.is_some.result c.get-received.ensures c.is_some.ensures c.if-is_some.false

pub returns : goal.returns
returns g c =
    let count = length-map c.args.self.now.pages.now (λ (m : SlotsView (List (SlotReport g.row.V.Denot))). m.entries) in
    let none = none_is c.get-received.result (page_of (entries_of c.args.self.now.pages.now) c.args.node c.args.page) _ c.is_some.result c.get-received.ensures c.is_some.ensures c.if-is_some.false in
    (λ i. page_of (pages_after_delivery c.args.self.now) (c.if-node-self.false i) (c.if-page-self.false i))
    ∙ page_new (entries_of c.args.self.now.pages.now) c.args.self.now.node c.args.self.now.page c.args.self.now.reports.now
    ((λ i. page_of (entries_of c.args.self.now.pages.now) (sym c.if-node-self.false i) (sym c.if-page-self.false i)) ∙ none)
    (omega (arith, count, c.requires))
