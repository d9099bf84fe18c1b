use Rattle.synod.proofs.Words.{ℕ, List, [], ◌∷◌, ◌++◌, take, ap, sym, ◌∙◌, subst, arith, append_assoc, take_all, SlotReport, IsHighestTable}
use Rattle.synod.proofs.HighestReportsLemmas.{take_next}
use Rattle.synod.proofs.leading.enter_page.Goals as goal

pub loop-report-preserved : goal.loop-report-preserved
loop-report-preserved g c = record {
  highest = λ reports h.
      let i : ℕ = c.loop-report.report-index in
      let one_more = c.enter_report.ensures.highest (reports ++ take i c.args.page.now) (c.loop-report.invariant.highest reports h) in
      let next = take_next c.args.page.now i c.report-item.result c.report-item.is (omega arith) in
      subst (λ (rs : List (SlotReport g.row.V.Denot)). IsHighestTable c.args.first c.enter_report.new.table.items rs)
      (append_assoc reports (take i c.args.page.now) (c.report-item.result ∷ []) ∙ ap (λ (rs : List (SlotReport g.row.V.Denot)). reports ++ rs) (sym next)) one_more;
  slots = c.enter_report.ensures.slots ∙ c.loop-report.invariant.slots;
}

pub returns-clause-highest : goal.returns-clause-highest
returns-clause-highest g c = λ reports h.
    subst (λ (rs : List (SlotReport g.row.V.Denot)). IsHighestTable c.args.first c.loop-report.table.items (reports ++ rs)) (take_all c.loop-report.report-index c.args.page.now (omega arith)) (c.loop-report.invariant.highest reports h)
