use Rattle.synod.proofs.Words.{◌≡◌, ◌-◌, ◌++◌, drop, joined_pages, pages_from, pages_after_delivery, reports_of_pages}
use Rattle.synod.proofs.leading.add_pages.Given as goal

abbrev pub invariant-loop-page : goal.invariant-loop-page
invariant-loop-page g l =
    reports_of_pages l.all.items ++ joined_pages (drop l.page (pages_from (pages_after_delivery l.pages) l.node)) (l.count - l.page)
    ≡ reports_of_pages l.fn.all.items ++ joined_pages (pages_from (pages_after_delivery l.pages) l.node) l.count
