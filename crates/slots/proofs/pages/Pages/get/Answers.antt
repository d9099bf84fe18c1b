use Rattle.slots.proofs.Words.{◌≡◌, ◌∙◌, ◌/◌, ◌%◌, sym, ap, arith, length, List, Option, entry_at}
use Rattle.slots.proofs.PagesLemmas.{length-joined, entry_at-joined}
use Rattle.slots.proofs.pages.Pages.get.Goals as goal

pub index-page-requires : goal.index-page-requires
index-page-requires g c =
    let slots = ap (λ (slots : List (Option g.row.T.Denot)). length slots) c.self.view_is in
    let pages = length-joined c.self.inside.pages.items c.self.invariant in
    omega (arith, slots, pages, c.requires)

pub returns : goal.returns
returns g c =
    let slots = ap (λ (slots : List (Option g.row.T.Denot)). length slots) c.self.view_is in
    let pages = length-joined c.self.inside.pages.items c.self.invariant in
    let same : entry_at c.args.self.now c.args.slot ≡ entry_at c.index-page.result.now (c.args.slot % 256) =
    ap (λ (slots : List (Option g.row.T.Denot)). entry_at slots c.args.slot) (sym c.self.view_is)
    ∙ entry_at-joined c.self.inside.pages.items c.index-page.result.now (c.args.slot / 256) (c.args.slot % 256) c.args.slot c.self.invariant (omega (arith, slots, pages, c.requires)) (omega arith) (omega arith)
    ∙ ap (λ (page : List (Option g.row.T.Denot)). entry_at page (c.args.slot % 256)) (sym c.index-page.ensures) in
    rw same c.get.ensures
