use Rattle.synod.proofs.Words.{◌≡◌, ℕ, suc, ◌+◌, ◌-◌, ◌++◌, List, Option, Some, drop, ap, sym, ◌∙◌, arith, SlotReport, joined_pages, pages_from, pages_after_delivery, reports_of_pages}
use Rattle.synod.proofs.HighestReportsLemmas.{joined-gap, add_next}
use Rattle.synod.proofs.leading.add_pages.Goals as goal
use Rattle.synod.proofs.leading.add_pages.Goals.{in-Some+in_ok-push, in_default}

pub loop-page-preserved : goal.loop-page-preserved
loop-page-preserved g c =
    let had : List (Option (List (SlotReport g.row.V.Denot))) = pages_from (pages_after_delivery c.args.pages.now) c.args.node in
    let i : ℕ = c.loop-page.page in
    let n : ℕ = c.args.count - (i + 1) in
    let count : c.args.count - i ≡ suc n = omega arith in
    let before = ap (λ (k : ℕ). reports_of_pages c.loop-page.all.items ++ joined_pages (drop i had) k) (sym count) ∙ c.loop-page.invariant in
    elim c.match-get.branch [
      | in-Some+in_ok-push w ↦
          let is = w.in-Some.ensures ∙ ap (λ (page : List (SlotReport g.row.V.Denot)). let o : Option (List (SlotReport g.row.V.Denot)) = Some page in o) (sym w.as_slice.ensures) in
          rw w.all-is (add_next had i n c.loop-page.all.items w.push.new.self.items w.as_slice.result is w.in_ok-push.ensures.items ∙ before)
      | in_default w ↦ rw w.all-is (ap (λ (rs : List (SlotReport g.row.V.Denot)). reports_of_pages c.loop-page.all.items ++ rs) (sym (joined-gap had i n w.in_default.ensures)) ∙ before)
    ]
