use Rattle.switch.proofs.CallLemmas.{stores_are, unloaded_idle}
use Rattle.switch.proofs.switch.Switch.history.Goals as goal

pub returns-clause-stores : goal.returns-clause-stores
returns-clause-stores g c = stores_are g.V.Value.bytes _ _ c.self.invariant _ c.self.view_is

pub returns-clause-idle : goal.returns-clause-idle
returns-clause-idle g c = unloaded_idle g.V.Value.bytes _ _ c.self.invariant _ c.self.view_is
