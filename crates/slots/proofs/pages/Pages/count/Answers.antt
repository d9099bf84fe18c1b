use Rattle.std.proofs.Common.{◌∙◌, sym, ap, arith, length, List, Option}
use Rattle.slots.proofs.PagesLemmas.{length-joined}
use Rattle.slots.proofs.pages.Pages.count.Goals as goal

pub returns : goal.returns
returns g c =
    ap (λ (slots : List (Option g.row.T.Denot)). length slots) (sym c.self.view_is)
    ∙ length-joined c.self.inside.pages.items c.self.invariant
    ∙ omega (arith, c.len.ensures)
