-- The steps of the events of a history.
-- Source: this project's own form; each event is at one node, as in Lamport's space-time diagrams
-- (Time, Clocks, and the Ordering of Events, 1978).
-- The code records a step as the world takes its event; here the steps are computed from the
-- history.
-- Events and acts have variants of the same names; here those of acts are `Offering` and so on.
use Rattle.std.specs.Prelude.{ℕ, suc, Bool, true, false, List, [], ◌∷◌, Option, Some, None, Result, Ok, length, slice_get}
use Rattle.library.specs.declared.verdict.Verdict.{Verdict}
use Rattle.synod.specs.declared.node.state.NodeState.{NodeState}
use Rattle.synod.specs.declared.packet.Packet.{Packet}
use Rattle.net.specs.declared.event.Event.{Event}
use Rattle.net.specs.declared.event.Event.TheVariants.{Offer, Begin, Deliver, Restart}
use Rattle.net.specs.declared.fault.StepFault.{StepFault}
use Rattle.net.specs.World.{World, events_result, packets_after}
use Rattle.net.specs.NodeStates.{state_after}
use Rattle.net.specs.History.{History, first_world}
use Rattle.world.specs.declared.carried.Carried.{Carried}
use Rattle.world.specs.Carried.{carried_size}
use Rattle.run_pictures.specs.declared.step.Step.{Step}
use Rattle.run_pictures.specs.declared.step.Act.{Act}
use Rattle.run_pictures.specs.declared.step.StepStart.{StepStart}
use Rattle.run_pictures.specs.declared.step.Act.TheVariants.{Offer as Offering, Begin as Beginning, Deliver as Delivering, Restart as Restarting, Apply as Applying}
use Rattle.run_pictures.specs.StepStart.{ended_of}

-- the world after some events, or the fault that they cause
abbrev pub WorldOrFault : Type 0
WorldOrFault = Result (World Carried) StepFault

-- the world after one more event
abbrev pub after_one_more : WorldOrFault → Event Carried → WorldOrFault
after_one_more r e = events_result carried_size (e ∷ []) r

-- the receiver of a packet, or 0 if there is none
abbrev pub receiver_of : Option (Packet Carried) → ℕ
receiver_of None = 0
receiver_of (Some p) = p.to

-- the node of an event; for a delivery, the receiver of the packet, or 0 if there is no such packet
-- (`node_of_step` of `net` is None there)
abbrev pub node_of_step : WorldOrFault → Event Carried → ℕ
node_of_step r (Offer k entry) = k
node_of_step r (Begin k) = k
node_of_step r (Deliver number) = receiver_of (slice_get (packets_after r) number)
node_of_step r (Restart k) = k

-- the number of entries of the log of a node in a state, or 0 if there is no node
abbrev pub learned_of : Option NodeState → ℕ
learned_of None = 0
learned_of (Some state) = state.log_len

-- the number of entries of the log of node k, or 0 after a fault
abbrev pub learned_by : WorldOrFault → ℕ → ℕ
learned_by r k = learned_of (state_after r k)

-- the act of the event at an index of the history
abbrev pub act_of : ℕ → Event Carried → Act
act_of index (Offer k entry) = Offering index
act_of index (Begin k) = Beginning
act_of index (Deliver number) = Delivering number
act_of index (Restart k) = Restarting

-- the fields of the step of the event at an index that are known in the world before it
abbrev pub step_start_of : ℕ → WorldOrFault → Event Carried → StepStart
step_start_of index before e = record {
  node = node_of_step before e;
  act = act_of index e;
  first_post = length (packets_after before);
  log_len_before = learned_by before (node_of_step before e);
}

-- the step of the event at an index, from the world before it to the world reached by it
abbrev pub step_of : ℕ → WorldOrFault → Event Carried → WorldOrFault → Step
step_of index before e reached = ended_of (step_start_of index before e) (length (packets_after reached)) (learned_by reached (node_of_step before e))

-- the steps of some events, the first of which is at an index, after a world
abbrev pub steps_from : ℕ → WorldOrFault → List (Event Carried) → List Step
steps_from index r [] = []
steps_from index r (e ∷ es) = step_of index r e (after_one_more r e) ∷ steps_from (suc index) (after_one_more r e) es

-- the steps of a history, in order, one for each event
abbrev pub steps_of : History Carried → List Step
steps_of history = steps_from 0 (Ok (first_world history)) history.events

-- the act is that of an event, not the application of an entry
abbrev pub is_event_act : Act → Bool
is_event_act (Offering index) = true
is_event_act Beginning = true
is_event_act (Delivering number) = true
is_event_act Restarting = true
is_event_act (Applying slot verdict) = false

-- the step is that of an event
abbrev pub is_event : Step → Bool
is_event s = is_event_act s.act

-- the step in which node k, whose log has `log_len` entries, applies the entry of a slot
abbrev pub application_of : ℕ → ℕ → ℕ → Verdict → Step
application_of k log_len slot verdict = record {
  node = k;
  act = Applying slot verdict;
  first_post = 0;
  end_post = 0;
  log_len_before = log_len;
  log_len_after = log_len;
}
