use Rattle.std.proofs.Common.{refl, arith}
use Rattle.net.proofs.StepsStaged.{still_room}
use Rattle.net.proofs.net.Net.reserve.Goals as goal

pub returns-in_err-reserve-clause-only_capacity : goal.returns-in_err-reserve-clause-only_capacity
returns-in_err-reserve-clause-only_capacity g c = still_room _ _ _ _ _ _ c.self.view_is c.reserve.ensures.items refl c.reserve.ensures.capacity (omega arith)

pub returns-in_err-reserve-2-clause-only_capacity : goal.returns-in_err-reserve-2-clause-only_capacity
returns-in_err-reserve-2-clause-only_capacity g c = still_room _ _ _ _ _ _ c.self.view_is c.reserve.ensures.items c.reserve-2.ensures.items c.reserve.ensures.capacity c.reserve-2.ensures.capacity

pub returns-clause-only_capacity : goal.returns-clause-only_capacity
returns-clause-only_capacity g c = still_room _ _ _ _ _ _ c.self.view_is c.reserve.ensures.items c.reserve-2.ensures.items c.reserve.ensures.capacity c.reserve-2.ensures.capacity
