-- The answers of a desk, each from the one history: `old` is what the desk had seen of it before
-- the call, and `new` what it has seen after it.
-- Source: this project's profile.
-- `Plays carried_size old new e answer` (crate `switch`): at the switch `old`, the event e has this
-- answer, the count of packets posted so far or a fault, and leaves the switch `new`.
-- `carried_size` is the size of an entry in bytes.
use Rattle.std.specs.Prelude.{◌≡◌, ◌⊎◌, ℕ, Bool, true, false, List, [], ◌∷◌, ◌++◌, Option, Result, Err}
use Rattle.nodes.specs.Words.{Listed, Verdict, status, listed, Carried, Ahead, Event, Deliver, StepFault, Apart, Stopped, carried_size, RunBefore, history_of, SwitchView, DeliversTogether, Plays, IsAhead, Cell, IsPrefixOf}
use Rattle.nodes.specs.declared.moment.Moment.{Moment}
use Rattle.nodes.specs.Moments.{IsSwitchAt, IsStoppedAt}
use Rattle.nodes.specs.Shared.{IsNodeCell}

-- what contracts see of a desk and of a cluster
pub record DeskView : Type 0 where
  pub node_count : ℕ
  pub seen : List Moment  -- of the history

-- the library of node k, as the history says, has these assertions
pub record IsListed (history : List Moment) (k : ℕ) (list : List Listed) : Type 0 where
  pub cell : Cell
  pub is_cell : IsNodeCell history k cell
  pub lists : list ≡ listed cell.node_library.library.statements

-- the verdict of the library of node k, as the history says, on the author's entry of that serial
-- number, if it has decided one
pub record IsStatus (history : List Moment) (k author serial : ℕ) (verdict : Option Verdict) : Type 0 where
  pub cell : Cell
  pub is_cell : IsNodeCell history k cell
  pub decides : verdict ≡ status cell.node_library.library.decided author serial

-- which of the libraries of nodes j and k, both as the history says, has more statements; the
-- statements of the other are a prefix of them, if the nodes began with what an earlier run left,
-- as new ones do
pub record IsCompared (history : List Moment) (j k : ℕ) (ahead : Ahead) : Type 0 where
  pub switch : SwitchView Carried
  pub is_switch : IsSwitchAt history switch
  pub one : Cell
  pub is_one : IsNodeCell history j one
  pub other : Cell
  pub is_other : IsNodeCell history k other
  pub compares : RunBefore carried_size (history_of switch) → IsAhead ahead one.node_library.library.statements other.node_library.library.statements

-- The rest is about the events that calls at a desk play on the switch.

-- the event stands in the new list of events, behind all of the old ones
pub record Stands {V : Type 0} (old new : List (Event V)) (e : Event V) : Type 0 where
  pub before : List (Event V)
  pub later : IsPrefixOf old before
  pub is : new ≡ before ++ e ∷ []

-- at a moment of the call the switch took the event, behind all events that had been seen
pub record Happens (old new : List Moment) (e : Event Carried) : Type 0 where
  pub at : List Moment
  pub later : IsPrefixOf old at
  pub earlier : IsPrefixOf at new
  pub switch : SwitchView Carried
  pub is_switch : IsSwitchAt at switch
  pub stands : (seen : SwitchView Carried) → IsSwitchAt old seen → Stands seen.history switch.history e
  pub last : Stands [] switch.history e

-- at a moment of the call the event meets the fault
pub record IsRefusedIn (old new : List Moment) (e : Event Carried) (fault : StepFault) : Type 0 where
  pub at : List Moment
  pub later : IsPrefixOf old at
  pub earlier : IsPrefixOf at new
  pub switch : SwitchView Carried
  pub is_switch : IsSwitchAt at switch
  pub left : SwitchView Carried
  pub plays : Plays carried_size switch left e (Err fault)

-- packets are delivered at node k one after another, and their changes are committed together; if
-- that fails, none of the packets that they post gets a hint
pub record DeliversAll (k : ℕ) (old new : SwitchView Carried) (packets : List ℕ) (hint_count : ℕ) : Type 0 where
  pub posted : ℕ
  pub is_committed : Bool
  pub delivers : DeliversTogether carried_size k old new packets posted is_committed
  pub silent : is_committed ≡ false → hint_count ≡ 0

-- a packet is delivered, whatever the result, and perhaps then another one
abbrev pub DeliversOneOrTwo : SwitchView Carried → SwitchView Carried → ℕ → Type 0
DeliversOneOrTwo old new number = (between : SwitchView Carried) × (answer : Result ℕ StepFault) × Plays carried_size old between (Deliver number) answer
    × ((new ≡ between) ⊎ ((next : ℕ) × (result : Result ℕ StepFault) × Plays carried_size between new (Deliver next) result))

-- the fault is that the cluster is stopped, which it was at the end of the call; that a lock does
-- not belong to the history; or that of the event
abbrev pub IsPlayFault : List Moment → List Moment → Event Carried → StepFault → Type 0
IsPlayFault old new e fault = ((fault ≡ Stopped) × IsStoppedAt new true) ⊎ (fault ≡ Apart) ⊎ IsRefusedIn old new e fault

-- what was stopped before the call is answered so, unless a lock does not belong to the history
abbrev pub StaysStopped : {A : Type 0} → List Moment → Result A StepFault → Type 0
StaysStopped old result = IsStoppedAt old true → (result ≡ Err Stopped) ⊎ (result ≡ Err Apart)
