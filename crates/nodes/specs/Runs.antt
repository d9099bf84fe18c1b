-- Which lists of moments are histories of a cluster.
-- Source: Lamport, Paxos Made Simple, section 3: a server executes the commands in the order of
-- their numbers, each as far as it has learned it.
-- No code computes this: it is the rule that each recorded moment keeps.
use Rattle.std.specs.Prelude.{◌≡◌, ℕ, List, Option, Some, IsOk, slice_get}
use Rattle.nodes.specs.Words.{Carried, Cell, SwitchView, World, carried_size, history_of, world_of, IsPrefixOf, IsMoment, log, UnloadedAreIdle}
use Rattle.nodes.specs.declared.moment.Moment.{Moment}
use Rattle.nodes.specs.Moments.{IsSwitchAt, IsCellAt}

-- at some moment of the switch's history each node had the log that it has in world w
pub record HasLogsOf {V : Type 0} (size : V → ℕ) (switch : SwitchView V) (w : World V) : Type 0 where
  pub world : World V
  pub moment : IsMoment size (history_of switch) world
  pub logs : (k : ℕ) → log world k ≡ log w k

-- the new switch goes on from the old one: it took all its events, perhaps more, and each moment of
-- the old history is one of the new, as to the logs
pub record GoesOnFrom {V : Type 0} (size : V → ℕ) (old new : SwitchView V) : Type 0 where
  pub events : IsPrefixOf old.history new.history
  pub moments : (w : World V) → IsMoment size (history_of old) w → HasLogsOf size new w

-- at some moment of the switch's history node k had this entry at this slot of its log
pub record WasLearned (history : List Moment) (k slot : ℕ) (entry : Option Carried) : Type 0 where
  pub switch : SwitchView Carried
  pub is_switch : IsSwitchAt history switch
  pub world : World Carried
  pub moment : IsMoment carried_size (history_of switch) world
  pub has : slice_get (log world k) slot ≡ Some entry

-- the switch of an early moment, and that of now, which goes on from it
pub record IsGoneOn (history : List Moment) (early : SwitchView Carried) : Type 0 where
  pub switch : SwitchView Carried
  pub is_switch : IsSwitchAt history switch
  pub goes_on : GoesOnFrom carried_size early switch

-- a history of a cluster: no event of the switch meets a fault, the switch of each moment goes on
-- from those before, and each entry in a cell is one that its node learned at that slot
pub record IsRun (history : List Moment) : Type 0 where
  pub taken : (switch : SwitchView Carried) → IsSwitchAt history switch → IsOk (world_of carried_size switch)
  pub idle : (switch : SwitchView Carried) → IsSwitchAt history switch → UnloadedAreIdle carried_size switch
  pub goes_on : (early : List Moment) (switch : SwitchView Carried) → IsPrefixOf early history → IsSwitchAt early switch → IsGoneOn history switch
  pub learned : (k : ℕ) (cell : Cell) → IsCellAt history k cell → (slot : ℕ) (entry : Option Carried) → slice_get cell.entries slot ≡ Some entry → WasLearned history k slot entry
