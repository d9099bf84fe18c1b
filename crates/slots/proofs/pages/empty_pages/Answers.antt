use Rattle.slots.proofs.Words.{◌≡◌, ◌∙◌, ◌++◌, ◌*◌, ◌+◌, ap, arith, ℕ, length, replicate, List, Option, None, length-replicate, replicate-append-replicate}
use Rattle.slots.proofs.PagesLemmas.{joined-push, full_size-push}
use Rattle.slots.proofs.pages.empty_pages.Goals as goal

pub loop-page-preserved : goal.loop-page-preserved
loop-page-preserved g c =
    let Page : Type 0 = List (Option g.row.T.Denot) in
    let gaps : ℕ → Page = λ n. replicate n None in
    let size = ap (λ (page : Page). length page) c.in_ok-page.ensures ∙ length-replicate {A = Option g.row.T.Denot} 256 None in
    let more : 256 * c.loop-page._page + 256 ≡ 256 * (c.loop-page._page + 1) = omega arith in
    rw c.in_ok-push.ensures.items (
      full_size-push c.loop-page.pages.items c.in_ok-page.page c.loop-page.invariant.0 size,
      joined-push c.loop-page.pages.items c.in_ok-page.page
          ∙ ap (λ (slots : Page). slots ++ c.in_ok-page.page) c.loop-page.invariant.1
          ∙ ap (λ (slots : Page). gaps (256 * c.loop-page._page) ++ slots) c.in_ok-page.ensures
          ∙ replicate-append-replicate {A = Option g.row.T.Denot} (256 * c.loop-page._page) 256 None
          ∙ ap gaps more,
    )
