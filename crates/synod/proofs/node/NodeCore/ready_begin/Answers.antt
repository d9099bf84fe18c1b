use Rattle.synod.proofs.Words.{◌<◌, ◌^◌, ap, arith, length, common_steps, Core, IsNode, begins, next_round}
use Rattle.synod.proofs.NodeLemmas.{node_of_parts, begins_keeps, memory_posts}
use Rattle.synod.proofs.node.NodeCore.ready_begin.Goals as goal

pub stage_ballot-requires-clause-preserves : goal.stage_ballot-requires-clause-preserves
stage_ballot-requires-clause-preserves g c =
    let is : IsNode c.args.self.now.node = node_of_parts c.self.inside.me c.self.inside.weights c.self.inside.kept_part c.self.inside.proposer c.self.inside.learner c.args.self.now c.self.view_is c.self.invariant in
    let rounds = ap (λ (core : Core g.row.V.Denot). next_round core.node) c.self.view_is in
    let low : next_round c.args.self.now.node < 2 ^ 64 = grind (arith, common_steps, rounds) in
    begins_keeps c.args.self.now.node is low

pub returns-clause-posts : goal.returns-clause-posts
returns-clause-posts g c =
    let is : IsNode c.args.self.now.node = node_of_parts c.self.inside.me c.self.inside.weights c.self.inside.kept_part c.self.inside.proposer c.self.inside.learner c.args.self.now c.self.view_is c.self.invariant in
    let rounds = ap (λ (core : Core g.row.V.Denot). next_round core.node) c.self.view_is in
    let low : next_round c.args.self.now.node < 2 ^ 64 = grind (arith, common_steps, rounds) in
    memory_posts (length c.args.self.now.node.weights) c.stage_ballot.new.self (begins c.args.self.now.node) c.stage_ballot.result c.or_memory.result c.stage_ballot.ensures.ready c.or_memory.ensures.ok c.or_memory.ensures.err (begins_keeps c.args.self.now.node is low)
