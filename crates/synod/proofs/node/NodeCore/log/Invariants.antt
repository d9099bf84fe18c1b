use Rattle.synod.proofs.Words.{◌≡◌, take, log_of}
use Rattle.synod.proofs.node.NodeCore.log.Given as goal

abbrev pub invariant-loop-slot : goal.invariant-loop-slot
invariant-loop-slot g l = l.log.items ≡ take l.slot (log_of l.fn.self.node)
