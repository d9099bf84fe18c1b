use Rattle.synod.proofs.Words.{◌∙◌, ap, subst, set, length, List, arith, SlotsView, SlotReport, entries_of, capacities_of, KeepsCapacities}
use Rattle.synod.proofs.RoomLemmas.{rooms_grow}
use Rattle.synod.proofs.ReceivedPagesLemmas.{entries-same, room-after, ok-room}
use Rattle.synod.proofs.promise_pages.ReceivedPages.reserve.Goals as goal

pub returns-clause-ok : goal.returns-clause-ok
returns-clause-ok g c =
    let count = ap (λ (maps : List (SlotsView (List (SlotReport g.row.V.Denot)))). length maps) c.self.view_is in
    ok-room c.room.result c.args.page c.room.new.self.capacity _ c.room.ensures.ok
    (room-after c.self.inside.by_node.items c.args.node c.room.new.self (omega (arith, count, c.requires.node)))

pub returns-clause-pages : goal.returns-clause-pages
returns-clause-pages g c =
    let count = ap (λ (maps : List (SlotsView (List (SlotReport g.row.V.Denot)))). length maps) c.self.view_is in
    entries-same c.self.inside.by_node.items c.args.node c.index_mut-pages.result.now c.room.new.self c.index_mut-pages.ensures.value c.room.ensures.entries (omega (arith, count, c.requires.node))
    ∙ ap (λ (maps : List (SlotsView (List (SlotReport g.row.V.Denot)))). entries_of maps) c.self.view_is

pub returns-clause-capacities : goal.returns-clause-capacities
returns-clause-capacities g c =
    subst (λ (maps : List (SlotsView (List (SlotReport g.row.V.Denot)))). KeepsCapacities (capacities_of maps) (capacities_of (set c.self.inside.by_node.items c.args.node c.room.new.self))) c.self.view_is
    (rooms_grow c.self.inside.by_node.items c.args.node c.index_mut-pages.result.now c.room.new.self c.index_mut-pages.ensures.value c.room.ensures.capacity)
