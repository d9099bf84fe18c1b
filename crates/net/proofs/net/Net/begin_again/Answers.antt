use Rattle.net.proofs.Words.{◌<◌, length, ap, arith, NetView}
use Rattle.net.proofs.HistoryLemmas.{count_shown}
use Rattle.net.proofs.BeginsAgainLemmas.{begins_again, world_again}
use Rattle.net.proofs.net.Net.begin_again.Goals as goal

pub index_mut-requires-2 : goal.index_mut-requires-2
index_mut-requires-2 g c =
    let all = count_shown g.V.Value.bytes _ _ _ _ c.self.invariant (ap (λ (n : NetView g.row.V.Denot). n.history) c.self.view_is) in
    omega (arith, all, c.requires.node, c.self.inside.nodes.ok.0)

pub invariant_of-self : goal.invariant_of-self
invariant_of-self g c =
    let all = count_shown g.V.Value.bytes _ _ _ _ c.self.invariant (ap (λ (n : NetView g.row.V.Denot). n.history) c.self.view_is) in
    let low : c.args.k < length c.self.inside.nodes.items = omega (arith, all, c.requires.node) in
    world_again g.V.Value.bytes c.self.inside.weights c.self.inside.event_limit c.self.inside.begins.items c.self.inside.events.items c.self.inside.nodes.items c.self.inside.packets.items _ _ _ c.self.view_is c.self.invariant
    c.args.k c.requires.idle c.args.stored c.of.result c.of.ensures c.index_mut-2.result.now c.commit_reload.new.self low c.index_mut-2.ensures.value c.commit_reload.ensures

pub returns : goal.returns
returns g c =
    let all = count_shown g.V.Value.bytes _ _ _ _ c.self.invariant (ap (λ (n : NetView g.row.V.Denot). n.history) c.self.view_is) in
    let low : c.args.k < length c.self.inside.nodes.items = omega (arith, all, c.requires.node) in
    begins_again g.V.Value.bytes c.self.inside.weights c.self.inside.event_limit c.self.inside.begins.items c.self.inside.events.items c.self.inside.nodes.items c.self.inside.packets.items _ _ _ c.self.view_is c.self.invariant
    c.args.k c.requires.idle c.args.stored c.of.result c.of.ensures c.index_mut-2.result.now c.commit_reload.new.self low c.index_mut-2.ensures.value c.commit_reload.ensures _ _
