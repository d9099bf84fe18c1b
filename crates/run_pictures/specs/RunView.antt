-- A run as contracts see it: its world, and its recorded steps.
-- Source: this project's own form.
-- The code also keeps how many packets have been posted (`posted` of `IsRecorded`).
use Rattle.std.specs.Prelude.{◌≡◌, ℕ, List, [], ◌∷◌, ◌++◌, Option, Some, None, length, filter}
use Rattle.library.specs.declared.entry.Entry.{Entry}
use Rattle.library.specs.declared.verdict.Verdict.{Verdict}
use Rattle.net.specs.World.{packets_after}
use Rattle.net.specs.History.{world_of, with_event}
use Rattle.net.specs.declared.event.Event.{Event}
use Rattle.world.specs.WorldView.{WorldView, after_event, IsApplied}
use Rattle.world.specs.declared.carried.Carried.{Carried}
use Rattle.world.specs.Carried.{carried_size}
use Rattle.run_pictures.specs.declared.step.Step.{Step}
use Rattle.run_pictures.specs.Steps.{application_of, learned_by, step_of, steps_of, is_event}
use Rattle.run_pictures.specs.Posts.{Packets}

pub record RunView : Type 0 where
  pub world : WorldView
  pub steps : List Step

-- all packets ever posted in a world, by number
abbrev pub packets_of : WorldView → Packets
packets_of world = packets_after (world_of carried_size world.history)

-- the steps that are events are those of the history, in order; `posted` is the number of packets
-- posted
pub record IsRecorded (world : WorldView) (steps : List Step) (posted : ℕ) : Type 0 where
  pub events : filter is_event steps ≡ steps_of world.history
  pub count : posted ≡ length (packets_of world)

-- the world takes an event, and the step of it is recorded after the others
pub record RecordsEvent (old : RunView) (e : Event Carried) (new : RunView) : Type 0 where
  pub taken : new.world ≡ after_event old.world e
  pub recorded : new.steps
      ≡ old.steps ++ step_of (length old.world.history.events) (world_of carried_size old.world.history) e (world_of carried_size (with_event old.world.history e)) ∷ []

-- an entry is applied to the library of node k, and the step of it, with the slot of the entry and
-- the verdict, is recorded after the others
pub record RecordsApplication (old : RunView) (k : ℕ) (entry : Option Entry) (new : RunView) : Type 0 where
  pub verdict : Verdict
  pub applied : IsApplied old.world k entry verdict new.world
  pub recorded : new.steps
      ≡ old.steps ++ application_of k (learned_by (world_of carried_size old.world.history) k) applied.old_node_library.applied verdict ∷ []

-- the entry is applied and recorded, or the run is unchanged if there is none
abbrev pub RecordsNext : RunView → ℕ → Option (Option Entry) → RunView → Type 0
RecordsNext old k None new = new ≡ old
RecordsNext old k (Some entry) new = RecordsApplication old k entry new

-- the world applies the entry and returns the verdict, or is unchanged and returns none if there is
-- no entry
abbrev pub AppliesOrNot : WorldView → ℕ → Option (Option Entry) → Option Verdict → WorldView → Type 0
AppliesOrNot old k None None new = new ≡ old
AppliesOrNot old k None (Some verdict) new = ⊥
AppliesOrNot old k (Some entry) None new = ⊥
AppliesOrNot old k (Some entry) (Some verdict) new = IsApplied old k entry verdict new
