-- One node and one event: the step that the packet or the restart makes.
-- Source: Lamport, Paxos Made Simple, 2.2 to 2.5.
-- The code takes a step in two parts, stage and commit. Here it is one.
use Rattle.std.specs.Prelude.{◌<◌, ◌≤◌, ℕ, List, Option, Some, None, length}
use Rattle.synod.specs.Words.{AllByRecursion, SLOTS, SlotReport, Packet, Body, Prepare, Promise, Accept, Accepted, Nack, Ask, Told, Role, Idle, Preparing, Leading}
use Rattle.synod.specs.Weights.{IsWeights}
use Rattle.synod.specs.Packets.{IsReport, IsPost, to_others}
use Rattle.synod.specs.Record.{KeptPart}
use Rattle.synod.specs.Node.{Node, StepResult, kept_of, restarted_node}
use Rattle.synod.specs.Acceptor.{on_prepare, on_accept}
use Rattle.synod.specs.Proposer.{on_promise, on_nack}
use Rattle.synod.specs.Learner.{on_accepted, on_ask, on_told}

abbrev pub on_body : {V : Type 0} → Node V → ℕ → Body V → StepResult V
on_body n p (Prepare b first) = on_prepare n p b first
on_body n p (Promise b page count reports) = on_promise n p b page count reports
on_body n p (Accept b s v) = on_accept n p b s v
on_body n p (Accepted b s v) = on_accepted n p b s v
on_body n p (Nack b c) = on_nack n b c
on_body n p (Ask s) = on_ask n p s
on_body n p (Told s v) = on_told n p s v

-- a packet arrives
abbrev pub on_packet : {V : Type 0} → Node V → Packet V → StepResult V
on_packet n p = on_body n p.from p.body

-- the node restarts with this kept part, and asks all others for the first entry
abbrev pub reloaded : {V : Type 0} → Node V → KeptPart V → StepResult V
reloaded n kept = record { node = restarted_node n.me n.weights kept; change = None; posts = to_others n.me n.weights (Ask 0) }

-- the node restarts with its own kept part
abbrev pub restarted : {V : Type 0} → Node V → StepResult V
restarted n = reloaded n (kept_of n)

-- The invariant of a node: its weights are allowed ones, it is one of the nodes, each slot with an
-- accepted entry, a learned value or a received report is below SLOTS, and the first slot of its
-- Prepare or the slot of its next proposal is at most SLOTS.

abbrev pub IsRole : Role → Type 0
IsRole Idle = Unit {0}
IsRole (Preparing b first) = first ≤ SLOTS
IsRole (Leading b next) = next ≤ SLOTS

abbrev pub IsReceivedPage : {V : Type 0} → Option (List (SlotReport V)) → Type 0
IsReceivedPage None = Unit {0}
IsReceivedPage (Some reports) = AllByRecursion IsReport reports

pub record IsNode {V : Type 0} (n : Node V) : Type 0 where
  pub weights : IsWeights n.weights
  pub me : n.me < length n.weights
  pub accepted : length n.accepted ≤ SLOTS
  pub learned : length n.learned ≤ SLOTS
  pub role : IsRole n.role
  pub pages : AllByRecursion (AllByRecursion IsReceivedPage) n.pages

-- the node after the step meets the invariant, and each post is a packet to one of the nodes
pub record PreservesInvariant {V : Type 0} (nodes : ℕ) (step : StepResult V) : Type 0 where
  pub node : IsNode step.node
  pub posts : AllByRecursion (IsPost nodes) step.posts
