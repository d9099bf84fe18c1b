use Rattle.synod.proofs.RoomLemmas.{ready_room}
use Rattle.synod.proofs.node.NodeCore.offer.Goals as goal

pub commit-requires-clause-capacity : goal.commit-requires-clause-capacity
commit-requires-clause-capacity g c = ready_room c.ready_offer.new.self _ c.in-Ok.ready c.in-Ok.ensures.ready
