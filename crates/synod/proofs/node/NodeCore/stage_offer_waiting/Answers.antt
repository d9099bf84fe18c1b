use Rattle.synod.proofs.Words.{length, IsNode, waits}
use Rattle.synod.proofs.NodeInvariant.{value_waits}
use Rattle.synod.proofs.NodeLemmas.{node_of_parts, memory_posts}
use Rattle.synod.proofs.node.NodeCore.stage_offer_waiting.Goals as goal

pub stage_waiting-requires : goal.stage_waiting-requires
stage_waiting-requires g c =
    let is : IsNode c.args.self.now.node = node_of_parts c.self.inside.me c.self.inside.weights c.self.inside.kept_part c.self.inside.proposer c.self.inside.learner c.args.self.now c.self.view_is c.self.invariant in
    record { preserves = value_waits c.args.self.now.node is c.args.value }

pub returns-clause-posts : goal.returns-clause-posts
returns-clause-posts g c =
    let is : IsNode c.args.self.now.node = node_of_parts c.self.inside.me c.self.inside.weights c.self.inside.kept_part c.self.inside.proposer c.self.inside.learner c.args.self.now c.self.view_is c.self.invariant in
    memory_posts (length c.args.self.now.node.weights) c.stage_waiting.new.self (waits c.args.self.now.node c.args.value) c.stage_waiting.result c.or_memory.result c.stage_waiting.ensures.ready c.or_memory.ensures.ok c.or_memory.ensures.err
    (value_waits c.args.self.now.node is c.args.value)
