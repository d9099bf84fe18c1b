use Rattle.switch.proofs.Words.{arith}
use Rattle.switch.proofs.DispatchLemmas.{count_now}
use Rattle.switch.proofs.switch.Switch.state.Goals as goal

pub returns-clause-no_node : goal.returns-clause-no_node
returns-clause-no_node g c = λ past. c.state.ensures.no_node (let count = count_now g.V.Value.bytes _ _ c.self.invariant _ c.self.view_is in omega (arith, count, past))

pub returns-clause-node : goal.returns-clause-node
returns-clause-node g c = λ low. c.state.ensures.node (let count = count_now g.V.Value.bytes _ _ c.self.invariant _ c.self.view_is in omega (arith, count, low))
