-- The state that a node reports after some events.
-- Source: Lamport, Paxos Made Simple, sections 2.2 and 2.4.
-- The code reads the node as it is now.
use Rattle.std.specs.Prelude.{ℕ, Option, None, Result, Ok, Err, slice_get, option_map}
use Rattle.synod.specs.State.{state_of}
use Rattle.synod.specs.declared.node.state.NodeState.{NodeState}
use Rattle.net.specs.Words.{StepFault}
use Rattle.net.specs.World.{World}

-- the state of node k; None if there is no such node, or the events meet a fault
abbrev pub state_after : {V : Type 0} → Result (World V) StepFault → ℕ → Option NodeState
state_after (Err fault) k = None
state_after (Ok w) k = option_map (λ n. state_of n) (slice_get w.nodes k)
