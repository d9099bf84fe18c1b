-- How the capacity of a node grows: a step that is staged and then dropped leaves its capacity
-- reserved.
-- Source: this project stages a step before it commits it.
-- In the code only a restart or a committed step lowers the reserved capacity of a node.
use Rattle.std.specs.Prelude.{◌≤◌, ℕ, List, slice_index_or}
use Rattle.synod.specs.Core.{Core}

-- each capacity is at least what it was
abbrev pub KeepsCapacities : List ℕ → List ℕ → Type 0
KeepsCapacities old new = (k : ℕ) → slice_index_or old k 0 ≤ slice_index_or new k 0

-- the node `new` has at least the capacity that the node `old` has
pub record KeepsCapacity {V : Type 0} (old new : Core V) : Type 0 where
  pub accepted : old.accepted_capacity ≤ new.accepted_capacity
  pub pages : KeepsCapacities old.page_capacities new.page_capacities
  pub heard : old.heard_capacity ≤ new.heard_capacity
  pub waiting : old.waiting_capacity ≤ new.waiting_capacity
  pub tallies : old.tallies_capacity ≤ new.tallies_capacity
  pub other_tallies : old.other_tallies_capacity ≤ new.other_tallies_capacity
  pub learned : old.learned_capacity ≤ new.learned_capacity
