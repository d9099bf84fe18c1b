-- The state of a node, on one line.
-- Source: this project's own form.
-- The code appends each part to the answer.
use Rattle.std.specs.Prelude.{ℕ, Bool, List, [], ◌++◌, codes, decimal, if◌then◌else◌}
use Rattle.synod.specs.declared.proposer.Role.{Role}
use Rattle.synod.specs.declared.proposer.Role.TheVariants.{Idle, Preparing, Leading}
use Rattle.synod.specs.declared.node.state.NodeState.{NodeState}
use Rattle.printed.specs.Printed.{ballot_text}

-- the role, and the ballot at which the node prepares or leads
abbrev pub role_text : Role → List ℕ
role_text Idle = codes "idle"
role_text (Preparing ballot first) = codes "preparing " ++ ballot_text ballot
role_text (Leading ballot next) = codes "leading " ++ ballot_text ballot

-- a name, followed by a number
abbrev pub count_text : List ℕ → ℕ → List ℕ
count_text name n = name ++ decimal n

-- the role, and the ballot that the node promised
abbrev pub role_and_promise : NodeState → List ℕ
role_and_promise state = role_text state.role ++ codes " promise " ++ ballot_text state.promise

-- how many entries the log has, how many were applied, and how many values wait
abbrev pub counts_text : NodeState → ℕ → List ℕ
counts_text state applied = count_text (codes " learned ") state.log_len ++ count_text (codes " applied ") applied ++ count_text (codes " waiting ") state.waiting

-- the end of the line: whether the node is down, and a line feed
abbrev pub line_end_text : Bool → List ℕ
line_end_text down = (if down then codes " down" else []) ++ codes "\n"

-- the line of a node, given how many entries were applied and whether it is down
abbrev pub state_text : NodeState → ℕ → Bool → List ℕ
state_text state applied down = role_and_promise state ++ counts_text state applied ++ line_end_text down
