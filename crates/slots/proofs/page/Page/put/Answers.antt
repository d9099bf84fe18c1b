use Rattle.std.proofs.Common.{◌∙◌, ap, set, List, Option, Some}
use Rattle.slots.specs.FiniteMap.{entry_at}
use Rattle.slots.specs.Stored.Pages.{padded}
use Rattle.slots.proofs.PageLemmas.{padded-put, padded-get}
use Rattle.slots.proofs.page.Page.put.Goals as goal

pub returns-clause-put : goal.returns-clause-put
returns-clause-put g c =
    ap (λ (o : Option g.row.T.Denot). padded (set c.pad_to.new.slots.items c.args.slot o)) c.replace.ensures.after
    ∙ padded-put c.self.inside.slots.items c.pad_to.new.slots.items c.args.slot c.requires c.pad_to.ensures.items _
    ∙ ap (λ (slots : List (Option g.row.T.Denot)). set slots c.args.slot (Some c.args.entry)) c.self.view_is

pub returns-clause-before : goal.returns-clause-before
returns-clause-before g c =
    c.replace.ensures.value ∙ c.index_mut.ensures.value
    ∙ padded-get c.self.inside.slots.items c.pad_to.new.slots.items c.args.slot c.requires c.pad_to.ensures.items _
    ∙ ap (λ (slots : List (Option g.row.T.Denot)). entry_at slots c.args.slot) c.self.view_is
