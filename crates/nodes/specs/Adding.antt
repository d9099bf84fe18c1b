-- The outcome of an entry at a node, as `Desk::add` returns it.
-- Source: this project's profile.
use Rattle.std.specs.Prelude.{◌≡◌, ◌⊎◌, ℕ, List, Option}
use Rattle.cluster.specs.Outcome.{IsOutcomeOf}
use Rattle.library.specs.declared.entry.Entry.{Entry}
use Rattle.net.specs.declared.event.Event.TheVariants.{Offer, Begin}
use Rattle.net.specs.declared.fault.StepFault.TheVariants.{Memory, NoNode}
use Rattle.nodes.specs.Words.{Verdict, Cell, StepFault, Apart}
use Rattle.nodes.specs.declared.moment.Moment.{Moment}
use Rattle.nodes.specs.Desk.{IsPlayFault}
use Rattle.nodes.specs.Shared.{IsNodeCell}

-- the outcome of the entry at node k, as the history says
pub record IsOutcome (history : List Moment) (k : ℕ) (entry : Entry) (outcome : Option Verdict) : Type 0 where
  pub cell : Cell
  pub is_cell : IsNodeCell history k cell
  pub outcome_of_cell : IsOutcomeOf cell entry outcome

-- the fault of one of the steps by which an entry is added
abbrev pub IsAddFault : List Moment → List Moment → ℕ → Entry → StepFault → Type 0
IsAddFault old new k entry fault =
    (fault ≡ Memory) ⊎ (fault ≡ Apart) ⊎ (fault ≡ NoNode)
    ⊎ IsPlayFault old new (Offer k (record { 0 = entry })) fault ⊎ IsPlayFault old new (Begin k) fault
