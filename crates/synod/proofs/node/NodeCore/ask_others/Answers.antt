use Rattle.synod.proofs.Words.{◌≡◌, ◌∙◌, ap, sym, subst, List, length, AllByRecursion, Packet, Ask, IsPost, to_others, Core, IsNode}
use Rattle.std.proofs.lemmas.Result.{IfOk-weaker}
use Rattle.synod.proofs.NodeLemmas.{node_of_parts, asks_all}
use Rattle.synod.proofs.node.NodeCore.ask_others.Goals as goal

pub returns-clause-asks : goal.returns-clause-asks
returns-clause-asks g c =
    let asks : List (Packet g.row.V.Denot) = to_others c.args.self.now.node.me c.args.self.now.node.weights (Ask 0) in
    IfOk-weaker c.broadcast_posts.result _ (λ posts. posts.items ≡ asks) (λ posts made. made ∙ ap (λ (core : Core g.row.V.Denot). to_others core.node.me core.node.weights (Ask 0)) c.self.view_is) c.broadcast_posts.ensures

pub returns-clause-posts : goal.returns-clause-posts
returns-clause-posts g c =
    let Posts : Type 0 = List (Packet g.row.V.Denot) in
    let is : IsNode c.args.self.now.node = node_of_parts c.self.inside.me c.self.inside.weights c.self.inside.kept_part c.self.inside.proposer c.self.inside.learner c.args.self.now c.self.view_is c.self.invariant in
    IfOk-weaker c.broadcast_posts.result _ (λ posts. AllByRecursion (IsPost (length c.args.self.now.node.weights)) posts.items)
    (λ posts made. subst (λ (ps : Posts). AllByRecursion (IsPost (length c.args.self.now.node.weights)) ps)
    (sym (made ∙ ap (λ (core : Core g.row.V.Denot). to_others core.node.me core.node.weights (Ask 0)) c.self.view_is)) (asks_all c.args.self.now.node is)) c.broadcast_posts.ensures
