use Rattle.synod.proofs.Words.{◌≡◌, refl, arith, pages_of, reports_from}
use Rattle.synod.proofs.ReportPages.{gathers-first, gathers-gap, gathers-add, gathers-new, gathers-last, pages-within}
use Rattle.synod.proofs.promise.report_pages.Goals as goal
use Rattle.synod.proofs.promise.report_pages.Goals.{in-Some+in_ok-copy_value+in_ok-push-2, then-len-eq-PAGE_REPORTS+in_ok-push, else-len-eq-PAGE_REPORTS, in_default}

pub loop-slot-init : goal.loop-slot-init
loop-slot-init g c = gathers-first c.args.first _ _ _ c.new-pages.ensures.items c.new-page.ensures.items

pub loop-slot-preserved : goal.loop-slot-preserved
loop-slot-preserved g c = elim c.match-get.branch [
  | in-Some+in_ok-copy_value+in_ok-push-2 w ↦ elim w.if-len-eq-PAGE_REPORTS.branch [
    | then-len-eq-PAGE_REPORTS+in_ok-push v ↦
        let pushed = w.in_ok-push-2.ensures.items in
        let posted = v.in_ok-push.ensures.items in
        let made = v.new.ensures in
        let none = v.new-page-then-len-eq-PAGE_REPORTS.ensures.items in
        let copy = w.in_ok-copy_value.ensures in
        gathers-new c.args.first c.loop-slot.slot _ c.loop-slot.pages.items c.loop-slot.page.items c.loop-slot.invariant (omega arith) w.in-Some.entry.now w.in-Some.ensures (omega (arith, w.len.ensures, v.if-len-eq-PAGE_REPORTS.true))
        c.match-get.pages.items c.match-get.page.items (rw (w.pages-is, v.pages-is, posted, made) refl) (rw (w.page-is, pushed, v.page-is, none, copy) refl)
    | else-len-eq-PAGE_REPORTS v ↦
        let pushed = w.in_ok-push-2.ensures.items in
        let copy = w.in_ok-copy_value.ensures in
        rw (w.pages-is, v.pages-is) (gathers-add c.args.first c.loop-slot.slot _ c.loop-slot.pages.items c.loop-slot.page.items c.loop-slot.invariant (omega arith) w.in-Some.entry.now w.in-Some.ensures
        (λ e. v.if-len-eq-PAGE_REPORTS.false (omega (arith, w.len.ensures, e))) c.match-get.page.items (rw (w.page-is, pushed, v.page-is, copy) refl))
  ]
  | in_default w ↦ rw (w.pages-is, w.page-is) (gathers-gap c.args.first c.loop-slot.slot _ _ _ c.loop-slot.invariant (omega arith) w.in_default.ensures)
]

pub returns-clause-pages : goal.returns-clause-pages
returns-clause-pages g c = gathers-last c.args.first c.loop-slot.slot _ c.loop-slot.pages.items c.loop-slot.page.items c.loop-slot.invariant (omega arith) c.push-2.new.self.items (rw (c.in_ok-push-3.ensures.items, c.new-2.ensures) refl)

pub returns-clause-few : goal.returns-clause-few
returns-clause-few g c =
    let pages : c.push-2.new.self.items ≡ pages_of (reports_from c.args.first 0 c.args.stored.now.kept.accepted) = returns-clause-pages g c in
    rw pages (pages-within c.args.first c.args.stored.now.kept.accepted (omega (arith, c.top-slot-end.ensures.top, c.top-slot-end.ensures.within)))
