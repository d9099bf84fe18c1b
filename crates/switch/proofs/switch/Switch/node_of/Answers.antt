use Rattle.switch.proofs.Words.{sym}
use Rattle.switch.proofs.CallLemmas.{node_seen}
use Rattle.switch.proofs.switch.Switch.node_of.Goals as goal

pub returns-clause-node : goal.returns-clause-node
returns-clause-node g c = λ x d. sym (node_seen g.V.Value.bytes _ _ c.self.invariant _ c.self.view_is c.args.event.now c.node_of.result c.node_of.ensures x d)
