-- The state that a node reports.
-- Source: Lamport, Paxos Made Simple, 2.2 and 2.4 (promises, and a distinguished proposer).
-- The code stores the length of the log, and the tops and the number of the accepted and the
-- learned entries.
use Rattle.std.specs.Prelude.{count_by, is_some, length, max}
use Rattle.slots.specs.FiniteMap.{top_of}
use Rattle.synod.specs.Log.{log_length}
use Rattle.synod.specs.Node.{Node}
use Rattle.synod.specs.declared.node.state.NodeState.{NodeState}

abbrev pub state_of : {V : Type 0} → Node V → NodeState
state_of n = record { role = n.role; promise = n.promise; log_len = log_length n; top = max (top_of n.accepted) (top_of n.learned); accepted = count_by is_some n.accepted; waiting = length n.waiting }
