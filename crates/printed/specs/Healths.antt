-- The health of all nodes, on a line for each node and one for the events.
-- Source: this project's own form.
-- The code appends each part to the answer.
use Rattle.std.specs.Prelude.{ℕ, ◌+◌, Bool, nat_lt, List, [], ◌∷◌, ◌++◌, Option, Some, None, codes, decimal, if◌then◌else◌, slice_get}
use Rattle.synod.specs.Ballots.{is_below}
use Rattle.synod.specs.declared.ballot.Ballot.{Ballot}
use Rattle.synod.specs.declared.node.state.NodeState.{NodeState}
use Rattle.synod.specs.declared.proposer.Role.{Role}
use Rattle.synod.specs.declared.proposer.Role.TheVariants.{Idle, Preparing, Leading}
use Rattle.world.specs.declared.health.Health.{Health}
use Rattle.world.specs.declared.health.NodeStatus.{NodeStatus}
use Rattle.printed.specs.Counted.{counted_lines_text}
use Rattle.printed.specs.Printed.{ballot_text}
use Rattle.printed.specs.States.{count_text}

-- the number of a node, and whether it is up
abbrev pub node_start_text : ℕ → Bool → List ℕ
node_start_text k down = decimal k ++ (if down then codes " down" else codes " up")

-- whether a node leads that has this ballot and this promise: it has promised no higher ballot
abbrev pub lead_at_text : Ballot → Ballot → List ℕ
lead_at_text ballot promise = if is_below ballot promise then codes " follows" else codes " leads " ++ ballot_text ballot

-- whether a node with this role and this promise leads
abbrev pub lead_text : Role → Ballot → List ℕ
lead_text Idle promise = codes " follows"
lead_text (Preparing ballot first) promise = codes " follows"
lead_text (Leading ballot next) promise = lead_at_text ballot promise

-- how many entries the log has, one above the greatest slot at which the node accepted or learned a
-- value, and how many entries were applied
abbrev pub node_counts_text : NodeStatus → List ℕ
node_counts_text status =
    count_text (codes " learned ") status.state.log_len ++ count_text (codes " of ") status.state.top
    ++ count_text (codes " applied ") status.applied

-- how many bytes the files of a node have, if it has files
abbrev pub stored_text : Option ℕ → List ℕ
stored_text None = []
stored_text (Some bytes) = count_text (codes " stored ") bytes

-- the end of the line of a node: whether it knows of an entry that it has not learned
abbrev pub node_end_text : NodeState → List ℕ
node_end_text state = if nat_lt state.log_len state.top then codes " recovering\n" else codes "\n"

-- the line of node k
abbrev pub node_line : ℕ → NodeStatus → Option ℕ → List ℕ
node_line k status stored =
    node_start_text k status.is_down ++ lead_text status.state.role status.state.promise
    ++ node_counts_text status ++ stored_text stored ++ node_end_text status.state

-- the lines of the nodes from node k on; `stored` has the bytes of the nodes' files, or is empty
abbrev pub node_lines : ℕ → List ℕ → List NodeStatus → List ℕ
node_lines k stored [] = []
node_lines k stored (status ∷ statuses) = node_line k status (slice_get stored k) ++ node_lines (k + 1) stored statuses

-- the line of the events: how many are taken, and how many the nodes take
abbrev pub events_line : ℕ → ℕ → List ℕ
events_line events limit = count_text (codes "events ") events ++ count_text (codes " of ") limit ++ codes "\n"

-- the lines after the first
abbrev pub health_lines : Health → List ℕ → List ℕ
health_lines health stored = node_lines 0 stored health.nodes.items ++ events_line health.events health.event_limit

-- a line of `health` and the count of the lines that follow, and then those lines
abbrev pub health_text : Health → List ℕ → List ℕ
health_text health stored = counted_lines_text (codes "health") (health_lines health stored)
