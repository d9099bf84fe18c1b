-- The events of each node, as a report counts them.
-- Source: this project's profile.
-- The code goes through the history once, and adds one to the count of each event's node.
use Rattle.std.specs.Prelude.{◌≡◌, ℕ, zero, suc, ◌+◌, ◌==◌, Bool, false, List, [], ◌∷◌, Option, Some, None, Ok, if◌then◌else◌}
use Rattle.nodes.specs.declared.moment.Moment.{Moment}
use Rattle.nodes.specs.Moments.{IsSwitchAt}
use Rattle.nodes.specs.Words.{Carried, Event, World, node_of, SwitchView, world_of, carried_size}

-- there is a node, and it is node k
abbrev pub is_node : ℕ → Option ℕ → Bool
is_node k None = false
is_node k (Some j) = j == k

-- the event is node k's own: a delivery is an event of the node that its packet is addressed to
abbrev pub is_event_of_node : {V : Type 0} → World V → ℕ → Event V → Bool
is_event_of_node w k e = is_node k (node_of w e)

-- the number of events that are node k's own
abbrev pub event_count_of : {V : Type 0} → World V → ℕ → List (Event V) → ℕ
event_count_of w k [] = 0
event_count_of w k (e ∷ es) = (if is_event_of_node w k e then 1 else 0) + event_count_of w k es

-- the counts of this many nodes from node k on, in order
abbrev pub event_counts : {V : Type 0} → World V → ℕ → ℕ → List (Event V) → List ℕ
event_counts w k zero events = []
event_counts w k (suc n) events = event_count_of w k events ∷ event_counts w (suc k) n events

-- the counts of the nodes from node k on, with one added at the node `at`, if it is one of them
abbrev pub with_one_more_at : ℕ → Option ℕ → List ℕ → List ℕ
with_one_more_at k at [] = []
with_one_more_at k at (count ∷ counts) = (count + (if is_node k at then 1 else 0)) ∷ with_one_more_at (suc k) at counts

-- the counts are those of the nodes in the history of the switch
pub record IsReport (switch : SwitchView Carried) (node_count : ℕ) (handled : List ℕ) : Type 0 where
  pub world : World Carried
  pub is_after : world_of carried_size switch ≡ Ok world
  pub counts : handled ≡ event_counts world 0 node_count switch.history

-- the counts are those of the nodes in the history of the switch, as the history says
pub record IsReportIn (history : List Moment) (node_count : ℕ) (handled : List ℕ) : Type 0 where
  pub switch : SwitchView Carried
  pub is_switch : IsSwitchAt history switch
  pub is_report : IsReport switch node_count handled
