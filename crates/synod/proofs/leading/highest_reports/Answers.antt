use Rattle.synod.proofs.Words.{ℕ, List, take, ap, sym, ◌∙◌, subst, arith, Bor, take_all, SlotReport, reports_of_pages, IsHighestTable}
use Rattle.synod.proofs.HighestReportsLemmas.{take_next, reports_of_pages-push, highest_of_none}
use Rattle.synod.proofs.leading.highest_reports.Goals as goal

pub loop-page-init : goal.loop-page-init
loop-page-init g c = record { highest = highest_of_none c.args.first c.loop-slot.table.items c.loop-slot.invariant.none; slots = omega (arith, c.loop-slot.invariant.count, c.loop-slot.invariant.within) }

pub loop-page-preserved : goal.loop-page-preserved
loop-page-preserved g c =
    let i : ℕ = c.loop-page.page-index in
    let next = ap (λ (ps : List (Bor (List (SlotReport g.row.V.Denot)))). reports_of_pages ps) (take_next c.args.pages.now i c.page-item.result c.page-item.is (omega arith)) ∙ reports_of_pages-push (take i c.args.pages.now) c.page-item.result in
    record {
      highest = subst (λ (rs : List (SlotReport g.row.V.Denot)). IsHighestTable c.args.first c.enter_page.new.table.items rs) (sym next) (c.enter_page.ensures.highest (reports_of_pages (take i c.args.pages.now)) c.loop-page.invariant.highest);
      slots = c.enter_page.ensures.slots ∙ c.loop-page.invariant.slots;
    }

pub returns-clause-highest : goal.returns-clause-highest
returns-clause-highest g c =
    subst (λ (ps : List (Bor (List (SlotReport g.row.V.Denot)))). IsHighestTable c.args.first c.loop-page.table.items (reports_of_pages ps)) (take_all c.loop-page.page-index c.args.pages.now (omega arith)) c.loop-page.invariant.highest
