-- What lies under the locks of the switch, of the senders and of a cell, and what the history says
-- of it.
-- Source: this project's form.
-- While `belongs` is true, each change under the lock was recorded.
use Rattle.std.specs.Prelude.{◌≡◌, ◌⊎◌, ℕ, ◌+◌, Bool, true, List, Option, Some, slice_get}
use Rattle.nodes.specs.Words.{Carried, Cell, SwitchView, carried_size, IsCell, log_entry, world_of}
use Rattle.nodes.specs.declared.moment.Moment.{Moment}
use Rattle.nodes.specs.Moments.{IsSwitchAt, IsCellAt, IsStoppedAt}
use Rattle.nodes.specs.Runs.{GoesOnFrom}
use Rattle.nodes.specs.Account.{AccountView}

pub record SharedSwitchView : Type 0 where
  pub switch : SwitchView Carried
  pub account : AccountView

pub record IsSharedSwitch (switch : SwitchView Carried) (account : AccountView) : Type 0 where
  pub lock : account.lock ≡ 0
  pub tie : account.belongs ≡ true → IsSwitchAt account.history switch

pub record SendersView : Type 0 where
  pub is_stopped : Bool
  pub account : AccountView

pub record AreSharedSenders (is_stopped : Bool) (account : AccountView) : Type 0 where
  pub lock : account.lock ≡ 1
  pub tie : account.belongs ≡ true → IsStoppedAt account.history is_stopped

pub record SharedCellView : Type 0 where
  pub cell : Cell
  pub account : AccountView

pub record IsCellTied (cell : Cell) (account : AccountView) : Type 0 where
  pub lock : account.lock ≡ 2 + cell.node
  pub at : IsCellAt account.history cell.node cell

pub record IsSharedCell (cell : Cell) (account : AccountView) : Type 0 where
  pub tie : account.belongs ≡ true → IsCellTied cell account

-- the cell of node k, as the history says; its library is that of the first of its entries
pub record IsNodeCell (history : List Moment) (k : ℕ) (cell : Cell) : Type 0 where
  pub at : IsCellAt history k cell
  pub node : cell.node ≡ k
  pub is_cell : IsCell cell

-- the switch goes on from the one that the history says, if it says one
abbrev pub GoesOnIn : List Moment → SwitchView Carried → Type 0
GoesOnIn history switch = (old : SwitchView Carried) → IsSwitchAt history old → GoesOnFrom carried_size old switch

-- each entry of the new cell is one of the old cell, or the log of its node has it at that slot
pub record TookOver (switch : SwitchView Carried) (old new : Cell) : Type 0 where
  pub node : new.node ≡ old.node
  pub entries : (slot : ℕ) (entry : Option Carried) → slice_get new.entries slot ≡ Some entry
      → (slice_get old.entries slot ≡ Some entry) ⊎ (log_entry (world_of carried_size switch) old.node slot ≡ Some entry)
