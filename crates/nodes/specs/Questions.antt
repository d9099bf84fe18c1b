-- The answers of a desk to questions about the state of a node or of all nodes, and about the
-- history, each from the one history.
-- Source: this project's profile.
use Rattle.std.specs.Prelude.{◌≡◌, ◌≤◌, ℕ, suc, List, [], ◌∷◌, Some, IsOk, length, vec_len}
use Rattle.net.specs.NodeStates.{state_after}
use Rattle.switch.specs.Switch.{is_down_at}
use Rattle.world.specs.declared.health.Health.{Health}
use Rattle.world.specs.declared.health.NodeStatus.{NodeStatus}
use Rattle.nodes.specs.Words.{Cell, Carried, Event, SwitchView, world_of, carried_size, IsPrefixOf}
use Rattle.nodes.specs.declared.moment.Moment.{Moment}
use Rattle.nodes.specs.Moments.{IsSwitchAt}
use Rattle.nodes.specs.Shared.{IsNodeCell}

-- the events of the switch, as the history says; none of them meets a fault
pub record IsHistory (history : List Moment) (events : List (Event Carried)) : Type 0 where
  pub switch : SwitchView Carried
  pub is_switch : IsSwitchAt history switch
  pub taken : IsOk (world_of carried_size switch)
  pub events_are : events ≡ switch.history

-- the state of node k, whether it is down, and the number of entries that its cell applied, all as
-- the history says; it applied no more than it learned
pub record IsNodeStatus (history : List Moment) (k : ℕ) (node_status : NodeStatus) : Type 0 where
  pub cell : Cell
  pub is_cell : IsNodeCell history k cell
  pub applied : node_status.applied ≡ cell.node_library.applied
  pub switch : SwitchView Carried
  pub is_switch : IsSwitchAt history switch
  pub state : state_after (world_of carried_size switch) k ≡ Some node_status.state
  pub is_down : node_status.is_down ≡ is_down_at switch.stores (Some k)
  pub learned : node_status.applied ≤ node_status.state.log_len

-- the state of node k at a moment of the call
pub record WasNodeStatus (old new : List Moment) (k : ℕ) (node_status : NodeStatus) : Type 0 where
  pub at : List Moment
  pub later : IsPrefixOf old at
  pub earlier : IsPrefixOf at new
  pub is_status : IsNodeStatus at k node_status

-- the states of the nodes from node k on, each at a moment of the call
abbrev pub AreNodeStatuses : List Moment → List Moment → ℕ → List NodeStatus → Type 0
AreNodeStatuses old new k [] = Unit {0}
AreNodeStatuses old new k (status ∷ statuses) = WasNodeStatus old new k status × AreNodeStatuses old new (suc k) statuses

-- the states of this many nodes, each at a moment of the call, and the numbers of the events that
-- the switch took and takes, as the history says
pub record IsHealth (old new : List Moment) (node_count : ℕ) (health : Health) : Type 0 where
  pub count : vec_len health.nodes ≡ node_count
  pub statuses : AreNodeStatuses old new 0 health.nodes.items
  pub switch : SwitchView Carried
  pub is_switch : IsSwitchAt new switch
  pub taken : IsOk (world_of carried_size switch)
  pub events : health.events ≡ length switch.history
  pub limit : health.event_limit ≡ switch.event_limit
