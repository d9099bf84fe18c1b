use Rattle.switch.proofs.Words.{take, DeliversInTurn, KeepsPrefixes}
use Rattle.switch.proofs.switch.Switch.deliver_all.Given as goal

-- the packets so far are delivered, and prefixes of logs remain prefixes
abbrev pub invariant-loop-number : goal.invariant-loop-number
invariant-loop-number g l = DeliversInTurn g.V.Value.bytes l.k l.initial.self l.self (take l.number-index l.packets) × KeepsPrefixes g.V.Value.bytes l.initial.self l.self
