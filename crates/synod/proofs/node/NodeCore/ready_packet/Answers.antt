use Rattle.synod.proofs.Words.{length, on_packet}
use Rattle.synod.proofs.StepInvariant.{keeps_packet}
use Rattle.synod.proofs.NodeLemmas.{memory_posts}
use Rattle.synod.proofs.node.NodeCore.ready_packet.Goals as goal

pub stage_body-requires-clause-preserves : goal.stage_body-requires-clause-preserves
stage_body-requires-clause-preserves g c = keeps_packet c.args.self.now.node c.node_count.ensures.node c.args.packet.now c.requires

pub returns-clause-posts : goal.returns-clause-posts
returns-clause-posts g c =
    memory_posts (length c.args.self.now.node.weights) c.stage_body.new.self (on_packet c.args.self.now.node c.args.packet.now) c.stage_body.result c.or_memory.result c.stage_body.ensures.ready c.or_memory.ensures.ok c.or_memory.ensures.err
    (keeps_packet c.args.self.now.node c.node_count.ensures.node c.args.packet.now c.requires)
