-- Agreement at every moment of a history.
-- Source: Lamport, Paxos Made Simple, section 2.2.
-- No code computes this; the contract of `Net::history` says that it holds, by the laws, for the
-- events that a net took.
use Rattle.std.specs.Prelude.{◌≡◌, ◌⊎◌, ◌<◌, ℕ, List, length, take, suc, Result, Ok, Err, IsOk}
use Rattle.net.specs.Words.{Event, StepFault, Memory}
use Rattle.net.specs.World.{World, after, events_result}
use Rattle.net.specs.Agree.{OneValue, ChosenValuePersists, ChosenAgree, LogsChosen, IsPrefixOf, LogsAgree, LogsOffered}
use Rattle.net.specs.History.{History, first_world, world_of}

-- w is the world at a moment of the history: after a prefix of its events
pub record IsMoment {V : Type 0} (size : V → ℕ) (history : History V) (w : World V) : Type 0 where
  pub early : List (Event V)
  pub begins : IsPrefixOf early history.events
  pub is_after : events_result size early (Ok (first_world history)) ≡ Ok w

pub record Agreement {V : Type 0} (size : V → ℕ) (history : History V) : Type 0 where
  -- no event of the history meets a fault
  pub is_taken : IsOk (world_of size history)
  -- under one ballot at most one value is proposed for a slot, and a later ballot's value is the
  -- one chosen under an earlier
  pub one_value : (w : World V) → IsMoment size history w → OneValue w
  pub later_value : (w : World V) → IsMoment size history w → ChosenValuePersists w
  -- values chosen at one slot, at any two moments, are equal
  pub chosen : (w x : World V) → IsMoment size history w → IsMoment size history x → ChosenAgree w x
  -- an entry of a log is chosen
  pub logs_chosen : (w : World V) → IsMoment size history w → LogsChosen w
  -- of the logs of any two nodes, at any two moments, one is a prefix of the other
  pub logs_agree : (w x : World V) → IsMoment size history w → IsMoment size history x → LogsAgree w x
  -- an entry of a log is a no-operation, or was offered before that moment
  pub logs_offered : (w : World V) (moment : IsMoment size history w) → LogsOffered moment.early w

-- Where a run of events stops.

-- the fault that was met, or Memory if none was
abbrev pub IsMetOrMemory : {V : Type 0} → Result (World V) StepFault → StepFault → Type 0
IsMetOrMemory (Ok w) fault = fault ≡ Memory
IsMetOrMemory (Err met) fault = fault ≡ met

-- the run stops at event i, from 0: the first i events are taken, and the fault is the one that
-- event i meets, or Memory if it meets none; or an allocation for the new nodes failed before the
-- first event
pub record RunStopsAt {V : Type 0} (size : V → ℕ) (weights : List ℕ) (limit : ℕ) (events : List (Event V)) (i : ℕ) (fault : StepFault) : Type 0 where
  pub before : IsOk (after size weights limit (take i events))
  pub fault_is : ((i < length events) × IsMetOrMemory (after size weights limit (take (suc i) events)) fault) ⊎ ((i ≡ 0) × (fault ≡ Memory))
