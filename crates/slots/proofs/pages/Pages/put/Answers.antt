use Rattle.slots.proofs.Words.{◌∙◌, ◌/◌, ◌%◌, sym, ap, arith, length, set, List, Option, Some, length-set, entry_at, joined}
use Rattle.slots.proofs.PagesLemmas.{length-joined, entry_at-joined, set-joined, full_size-set, full_size-at}
use Rattle.slots.proofs.pages.Pages.put.Goals as goal

pub index_mut-page-requires : goal.index_mut-page-requires
index_mut-page-requires g c =
    let slots = ap (λ (slots : List (Option g.row.T.Denot)). length slots) c.self.view_is in
    let pages = length-joined c.self.inside.pages.items c.self.invariant in
    omega (arith, slots, pages, c.requires)

pub invariant_of-self : goal.invariant_of-self
invariant_of-self g c =
    full_size-set c.self.inside.pages.items (c.args.slot / 256) c.put.new.self c.self.invariant
    (ap (λ (page : List (Option g.row.T.Denot)). length page) c.put.ensures.put
    ∙ length-set c.index_mut-page.result.now (c.args.slot % 256) (Some c.args.entry)
    ∙ full_size-at c.self.inside.pages.items (c.args.slot / 256) c.index_mut-page.result.now c.self.invariant c.index_mut-page.ensures.value
    (let slots = ap (λ (slots : List (Option g.row.T.Denot)). length slots) c.self.view_is in
    let pages = length-joined c.self.inside.pages.items c.self.invariant in
    omega (arith, slots, pages, c.requires)))

pub returns-clause-put : goal.returns-clause-put
returns-clause-put g c =
    let slots = ap (λ (slots : List (Option g.row.T.Denot)). length slots) c.self.view_is in
    let pages = length-joined c.self.inside.pages.items c.self.invariant in
    ap (λ (page : List (Option g.row.T.Denot)). joined (set c.self.inside.pages.items (c.args.slot / 256) page))
    (c.put.ensures.put ∙ ap (λ (page : List (Option g.row.T.Denot)). set page (c.args.slot % 256) (Some c.args.entry)) c.index_mut-page.ensures.value)
    ∙ sym (set-joined c.self.inside.pages.items c.index_mut-page.result.now (c.args.slot / 256) (c.args.slot % 256) c.args.slot (Some c.args.entry) c.self.invariant (omega (arith, slots, pages, c.requires)) (omega arith) (omega arith))
    ∙ ap (λ (slots : List (Option g.row.T.Denot)). set slots c.args.slot (Some c.args.entry)) c.self.view_is

pub returns-clause-before : goal.returns-clause-before
returns-clause-before g c =
    let slots = ap (λ (slots : List (Option g.row.T.Denot)). length slots) c.self.view_is in
    let pages = length-joined c.self.inside.pages.items c.self.invariant in
    c.put.ensures.before
    ∙ ap (λ (page : List (Option g.row.T.Denot)). entry_at page (c.args.slot % 256)) c.index_mut-page.ensures.value
    ∙ sym (entry_at-joined c.self.inside.pages.items c.index_mut-page.result.now (c.args.slot / 256) (c.args.slot % 256) c.args.slot c.self.invariant (omega (arith, slots, pages, c.requires)) (omega arith) (omega arith))
    ∙ ap (λ (slots : List (Option g.row.T.Denot)). entry_at slots c.args.slot) c.self.view_is
