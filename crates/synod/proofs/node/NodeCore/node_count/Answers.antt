use Rattle.synod.proofs.NodeLemmas.{node_of_parts}
use Rattle.synod.proofs.node.NodeCore.node_count.Goals as goal

pub returns-clause-node : goal.returns-clause-node
returns-clause-node g c =
    node_of_parts c.self.inside.me c.self.inside.weights c.self.inside.kept_part c.self.inside.proposer c.self.inside.learner c.args.self.now c.self.view_is c.self.invariant
