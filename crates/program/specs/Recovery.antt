-- What a start finds of nodes that have a library from before.
-- Source: Lamport, Paxos Made Simple, 2.4: a new leader proposes again what may have been chosen.
-- The code asks the desk until a leader is followed by all nodes that are up.
use Rattle.std.specs.Prelude.{◌≡◌, ◌==◌, ◌⊎◌, ◌||◌, ℕ, Bool, true, false, not, nat_lt, List, Option, Some, None, map}
use Rattle.std.specs.Prelude.{option_and_then, slice_get, slice_index, slice_index_or, if◌then◌else◌}
use Rattle.std.specs.List.{list_all}
use Rattle.synod.specs.Ballots.{is_below}
use Rattle.synod.specs.Weights.{is_quorum}
use Rattle.synod.specs.declared.ballot.Ballot.{Ballot}
use Rattle.synod.specs.declared.proposer.Role.{Role}
use Rattle.synod.specs.declared.proposer.Role.TheVariants.{Idle, Preparing, Leading}
use Rattle.nodes.specs.Questions.{IsHealth}
use Rattle.nodes.specs.Words.{IsPrefixOf}
use Rattle.nodes.specs.declared.moment.Moment.{Moment}
use Rattle.world.specs.declared.health.Health.{Health}
use Rattle.world.specs.declared.health.NodeStatus.{NodeStatus}
use Rattle.program.specs.declared.recovery.Recovered.{Recovered}
use Rattle.program.specs.declared.recovery.Recovered.TheVariants.{Entries, NoQuorum, Unfinished}

-- whether a node is up
abbrev pub is_up : NodeStatus → Bool
is_up status = not status.is_down

-- whether the nodes that are up are a quorum
abbrev pub are_quorum_up : List ℕ → List NodeStatus → Bool
are_quorum_up weights nodes = is_quorum weights (λ k. slice_index_or (map is_up nodes) k false)

-- the weight of a node that is up; 0 if there is no such node, or it is down
abbrev pub weight_if_up : ℕ → Option NodeStatus → ℕ
weight_if_up weight None = 0
weight_if_up weight (Some status) = if status.is_down then 0 else weight

-- the weight of node k if it is up
abbrev pub weight_up : List ℕ → List NodeStatus → ℕ → ℕ
weight_up weights nodes k = weight_if_up (slice_index weights k) (slice_get nodes k)

-- whether no node accepted or learned an entry
abbrev pub are_new : List NodeStatus → Bool
are_new nodes = list_all (λ status. status.state.top == 0) nodes

-- how many entries a node with this role and this promise proposed, if it leads: if it has promised
-- no ballot above its own
abbrev pub led_by : Role → Ballot → Option ℕ
led_by Idle promise = None
led_by (Preparing ballot first) promise = None
led_by (Leading ballot next) promise = if is_below ballot promise then None else Some next

-- how many entries a node with this status proposed, if it leads
abbrev pub entries_led : NodeStatus → Option ℕ
entries_led status = led_by status.state.role status.state.promise

-- whether a node is down, or has applied this many entries
abbrev pub has_applied : ℕ → NodeStatus → Bool
has_applied entries status = status.is_down || not (nat_lt status.applied entries)

-- node k leads, and each node that is up has applied the entries that it proposed
abbrev pub AreApplied : ℕ → ℕ → List NodeStatus → Type 0
AreApplied k entries nodes =
    (option_and_then entries_led (slice_get nodes k) ≡ Some entries) × (list_all (has_applied entries) nodes ≡ true)

-- in a part of the call this was the health of the n nodes; the desk had seen `old` of the history
-- before the call, and has seen `new` after it
pub record WasHealth (old new : List Moment) (n : ℕ) (health : Health) : Type 0 where
  pub first : List Moment
  pub later : IsPrefixOf old first
  pub last : List Moment
  pub earlier : IsPrefixOf last new
  pub is_health : IsHealth first last n health

-- node k led in a part of the call, and each node that is up had applied what it proposed
abbrev pub WereApplied : List Moment → List Moment → ℕ → ℕ → ℕ → Type 0
WereApplied old new n k entries = (health : Health) × WasHealth old new n health × AreApplied k entries health.nodes.items

-- what is found of n nodes with these weights: that no node has an entry, or that some node led and
-- each node that is up had applied what it proposed; that the nodes that are up are no quorum
abbrev pub IsFound : List Moment → List Moment → ℕ → List ℕ → Recovered → Type 0
IsFound old new n weights (Entries entries) =
    ((health : Health) × WasHealth old new n health × (are_new health.nodes.items ≡ true) × (entries ≡ 0))
    ⊎ ((k : ℕ) × WereApplied old new n k entries)
IsFound old new n weights NoQuorum =
    (health : Health) × WasHealth old new n health × (are_quorum_up weights health.nodes.items ≡ false)
IsFound old new n weights Unfinished = Unit {0}
