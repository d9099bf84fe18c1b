use Rattle.synod.proofs.Words.{◌∙◌, ap, List, SlotsView, SlotReport, entries_of, put_page}
use Rattle.synod.proofs.ReceivedPagesLemmas.{entries-put, room-within}
use Rattle.synod.proofs.promise_pages.ReceivedPages.put.Goals as goal

pub returns : goal.returns
returns g c =
    entries-put c.self.inside.by_node.items c.args.node c.args.page c.args.reports c.index_mut-pages.result.now c.put.new.self c.index_mut-pages.ensures.value c.put.ensures.entries
    (room-within c.self.inside.by_node.items c.args.node c.args.page (rw c.self.view_is c.requires))
    ∙ ap (λ (maps : List (SlotsView (List (SlotReport g.row.V.Denot)))). put_page (entries_of maps) c.args.node c.args.page c.args.reports) c.self.view_is
