use Rattle.net.proofs.Words.{◌++◌, [], ◌∷◌, List, length, ap, refl, ◌∙◌, arith, Packet, Event, NetView, StagedWork, posts_of, work_of}
use Rattle.net.proofs.HistoryLemmas.{packets_shown}
use Rattle.net.proofs.StagedTaken.{taken_in, commit_world, commit_taken}
use Rattle.net.proofs.net.Net.commit.Goals as goal

pub invariant_of-self : goal.invariant_of-self
invariant_of-self g c =
    let View : Type 0 = NetView g.row.V.Denot in
    let packets = ap (λ (n : View). length n.packets) c.self.view_is in
    let room = ap (λ (n : View). n.packet_capacity) c.self.view_is in
    let count = ap (λ (ps : List (Packet g.row.V.Denot)). length ps) c.commit_at-posts.ensures.posts in
    let posts = ap (λ (w : StagedWork g.row.V.Denot). length (posts_of w)) c.into_parts-at.ensures.work in
    let fits = c.append-added.ensures.succeeds (omega (arith, packets, room, count, posts, c.requires.capacity.for_packets, c.self.inside.packets.ok.0, c.commit_at-posts.result.ok.0)) in
    let added = taken_in c.append-added.result c.self.inside.packets.items c.commit_at-posts.result.items c.append-added.new.self.items fits c.append-added.ensures.items ∙ ap (λ (ps : List (Packet g.row.V.Denot)). c.self.inside.packets.items ++ ps) c.commit_at-posts.ensures.posts in
    let pushed = c.push_reserved.ensures.items ∙ ap (λ (e : Event g.row.V.Denot). c.self.inside.events.items ++ e ∷ []) c.into_parts-at.ensures.event in
    commit_world g.V.Value.bytes _ _ c.self.view_is c.self.invariant c.requires.few c.args.staged c.requires.staged c.into_parts-at.result.0 c.into_parts-at.ensures.at c.index_mut.result.now c.commit_at-posts.new.node c.index_mut.ensures.value
    (work_of c.into_parts-at.result.2) c.into_parts-at.ensures.work c.commit_at-posts.ensures.node c.append-added.new.self.items c.push_reserved.new.self.items added pushed

pub returns-clause-taken : goal.returns-clause-taken
returns-clause-taken g c =
    let View : Type 0 = NetView g.row.V.Denot in
    let packets = ap (λ (n : View). length n.packets) c.self.view_is in
    let room = ap (λ (n : View). n.packet_capacity) c.self.view_is in
    let count = ap (λ (ps : List (Packet g.row.V.Denot)). length ps) c.commit_at-posts.ensures.posts in
    let posts = ap (λ (w : StagedWork g.row.V.Denot). length (posts_of w)) c.into_parts-at.ensures.work in
    let fits = c.append-added.ensures.succeeds (omega (arith, packets, room, count, posts, c.requires.capacity.for_packets, c.self.inside.packets.ok.0, c.commit_at-posts.result.ok.0)) in
    let added = taken_in c.append-added.result c.self.inside.packets.items c.commit_at-posts.result.items c.append-added.new.self.items fits c.append-added.ensures.items ∙ ap (λ (ps : List (Packet g.row.V.Denot)). c.self.inside.packets.items ++ ps) c.commit_at-posts.ensures.posts in
    let pushed = c.push_reserved.ensures.items ∙ ap (λ (e : Event g.row.V.Denot). c.self.inside.events.items ++ e ∷ []) c.into_parts-at.ensures.event in
    commit_taken g.V.Value.bytes _ _ c.self.view_is c.self.invariant c.requires.few c.args.staged c.requires.staged c.into_parts-at.result.0 c.into_parts-at.ensures.at c.index_mut.result.now c.commit_at-posts.new.node c.index_mut.ensures.value
    (work_of c.into_parts-at.result.2) c.into_parts-at.ensures.work c.commit_at-posts.ensures.node c.append-added.new.self.items c.push_reserved.new.self.items added pushed _ _ c.append-added.ensures.capacity (omega (arith, c.push_reserved.ensures.capacity))

pub returns-clause-posted : goal.returns-clause-posted
returns-clause-posted g c =
    let View : Type 0 = NetView g.row.V.Denot in
    let packets = ap (λ (n : View). length n.packets) c.self.view_is in
    let room = ap (λ (n : View). n.packet_capacity) c.self.view_is in
    let count = ap (λ (ps : List (Packet g.row.V.Denot)). length ps) c.commit_at-posts.ensures.posts in
    let posts = ap (λ (w : StagedWork g.row.V.Denot). length (posts_of w)) c.into_parts-at.ensures.work in
    let fits = c.append-added.ensures.succeeds (omega (arith, packets, room, count, posts, c.requires.capacity.for_packets, c.self.inside.packets.ok.0, c.commit_at-posts.result.ok.0)) in
    let added = taken_in c.append-added.result c.self.inside.packets.items c.commit_at-posts.result.items c.append-added.new.self.items fits c.append-added.ensures.items ∙ ap (λ (ps : List (Packet g.row.V.Denot)). c.self.inside.packets.items ++ ps) c.commit_at-posts.ensures.posts in
    let pushed = c.push_reserved.ensures.items ∙ ap (λ (e : Event g.row.V.Denot). c.self.inside.events.items ++ e ∷ []) c.into_parts-at.ensures.event in
    let shown = ap (λ (ps : List (Packet g.row.V.Denot)). length ps) (packets_shown g.V.Value.bytes _ _ _ _ (commit_world g.V.Value.bytes _ _ c.self.view_is c.self.invariant c.requires.few c.args.staged c.requires.staged c.into_parts-at.result.0 c.into_parts-at.ensures.at c.index_mut.result.now c.commit_at-posts.new.node c.index_mut.ensures.value
    (work_of c.into_parts-at.result.2) c.into_parts-at.ensures.work c.commit_at-posts.ensures.node c.append-added.new.self.items c.push_reserved.new.self.items added pushed) refl) in
    omega (arith, shown, c.len.ensures, c.append-added.new.self.ok.0)
