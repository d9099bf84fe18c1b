use Rattle.synod.proofs.node.NodeCore.stage_posts.Goals as goal

pub new-requires : goal.new-requires
new-requires g c = record { change = tt; proposer = tt; learner = tt; node = c.node_count.ensures.node }
