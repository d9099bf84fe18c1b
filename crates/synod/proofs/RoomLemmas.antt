-- The room of a node after one of its parts has grown, and why a step that was ready stays so.
use Rattle.synod.proofs.Words.{◌≡◌, ℕ, zero, suc, ◌≤◌, List, [], ◌∷◌, length, get_or, set, Option, Some, None, Result, Ok, Err, ap, sym, subst, arith, SlotsView, Change, Round, Entry, ProposerUpdate, AddWaiting, Propose, Begin, AddPage, AddHeard, CompletePromise, Lead, LearnerUpdate, Count, CountAndLearn, Learn, StagedUpdates, RecordView, HasCapacityFor, Node, StepResult, Refusal, Core, ProposerView, LearnerView, core_of, capacities_of, CanUpdateProposer, CanCount, CanUpdateLearner, KeepsCapacities, KeepsCapacity, IsNode, ReadyView, IsStagingResult, staged_node, proposer_of, learner_of, CanCommit}
use Rattle.synod.specs.declared.change.Change.TheVariants.{Promise}
use Rattle.synod.specs.declared.proposer.ProposerUpdate.TheVariants.{Idle}

-- A map of pages has more room.

-- rooms that stay the same are no less
pub rooms_same : (rooms : List ℕ) → KeepsCapacities rooms rooms
rooms_same rooms = λ k. omega arith

-- if one map has more room, each room is no less than before
pub rooms_grow : {T : Type 0} (maps : List (SlotsView T)) (k : ℕ) (m more : SlotsView T) → m ≡ get_or maps k m → m.capacity ≤ more.capacity → KeepsCapacities (capacities_of maps) (capacities_of (set maps k more))
rooms_grow {T} maps k m more read grows = λ j. grow_at maps k m more read grows j where
  grow_at : {T : Type 0} (maps : List (SlotsView T)) (k : ℕ) (m more : SlotsView T) → m ≡ get_or maps k m → m.capacity ≤ more.capacity → (j : ℕ) → get_or (capacities_of maps) j 0 ≤ get_or (capacities_of (set maps k more)) j 0
  grow_at [] k m more read grows j = omega arith
  grow_at {T} (x ∷ maps) zero m more read grows zero = let same = ap (λ (m : SlotsView T). m.capacity) read in omega (arith, same, grows)
  grow_at (x ∷ maps) zero m more read grows (suc j) = omega arith
  grow_at (x ∷ maps) (suc k) m more read grows zero = omega arith
  grow_at (x ∷ maps) (suc k) m more read grows (suc j) = grow_at maps k m more read grows j

-- A part of a node has more room.

-- a node has no less room than itself
pub same_room : {V : Type 0} (c : Core V) → KeepsCapacity c c
same_room c = record {
  accepted = omega arith;
  pages = rooms_same c.page_capacities;
  heard = omega arith;
  waiting = omega arith;
  tallies = omega arith;
  other_tallies = omega arith;
  learned = omega arith;
}

module _ {V : Type 0} (me : ℕ) (weights : List ℕ) (r : RecordView V) (p : ProposerView V) (l : LearnerView V) (now : Core V) (seen : core_of me weights r p l ≡ now) where
  abbrev Grows : Core V → Type 0
  Grows new = KeepsCapacity now new

  -- if a core has no less room than the parts, it has no less than the node that they make
  back : (new : Core V) → KeepsCapacity (core_of me weights r p l) new → Grows new
  back new h = subst (λ (c : Core V). KeepsCapacity c new) seen h

  -- the node has no less room, if no part has grown
  pub no_more_room : Grows (core_of me weights r p l)
  no_more_room = back (core_of me weights r p l) (same_room (core_of me weights r p l))

  -- the node has no less room, if the record has more
  pub record_room : (more : RecordView V) → r.capacity ≤ more.capacity → Grows (core_of me weights more p l)
  record_room more grows = back (core_of me weights more p l) record {
    accepted = grows;
    pages = rooms_same p.page_capacities;
    heard = omega arith;
    waiting = omega arith;
    tallies = omega arith;
    other_tallies = omega arith;
    learned = omega arith;
  }

  -- the node has no less room, if the proposer has more
  pub proposer_room : (more : ProposerView V) → KeepsCapacities p.page_capacities more.page_capacities → p.heard_capacity ≤ more.heard_capacity → p.waiting_capacity ≤ more.waiting_capacity → Grows (core_of me weights r more l)
  proposer_room more pages heard waiting = back (core_of me weights r more l) record {
    accepted = omega arith;
    pages = pages;
    heard = heard;
    waiting = waiting;
    tallies = omega arith;
    other_tallies = omega arith;
    learned = omega arith;
  }

  -- the node has no less room, if the learner has more
  pub learner_room : (more : LearnerView V) → l.tallies_capacity ≤ more.tallies_capacity → l.other_tallies_capacity ≤ more.other_tallies_capacity → l.learned_capacity ≤ more.learned_capacity → Grows (core_of me weights r p more)
  learner_room more tallies other_tallies learned = back (core_of me weights r p more) record {
    accepted = omega arith;
    pages = rooms_same p.page_capacities;
    heard = omega arith;
    waiting = omega arith;
    tallies = tallies;
    other_tallies = other_tallies;
    learned = learned;
  }

-- the node has no less room than when the step was readied
pub ready_room : {V : Type 0} (core : Core V) (r : Result (StepResult V) Refusal) (made : ReadyView V) → IsStagingResult core r (Ok made) → KeepsCapacity made.before core
ready_room {V} core (Ok step) made h = subst (λ (c : Core V). KeepsCapacity c core) (sym h.0) (same_room core)
ready_room core (Err met) made h = elim h [ ]

-- A staged step can be committed with at least as much room.

-- the change of the record
record_has_room : {V : Type 0} (room more : ℕ) (change : Option (Change V)) → room ≤ more → HasCapacityFor room change → HasCapacityFor more change
record_has_room room more None grows h = tt
record_has_room room more (Some (Round r)) grows h = tt
record_has_room room more (Some (Promise b)) grows h = tt
record_has_room room more (Some (Entry s entry)) grows h = omega (arith, grows, h)

module _ {V : Type 0} (c d : Core V) (same : d.node ≡ c.node) (h : KeepsCapacity c d) where
  -- the update of the proposer
  proposer_has_room : (update : Option (ProposerUpdate V)) → CanUpdateProposer (proposer_of c) update → CanUpdateProposer (proposer_of d) update
  proposer_has_room None room = tt
  proposer_has_room (Some (AddWaiting v)) room = let count = ap (λ (n : Node V). length n.waiting) same in let more = h.waiting in omega (arith, count, more, room)
  proposer_has_room (Some (Propose b next)) room = tt
  proposer_has_room (Some (Begin b first pages)) room = tt
  proposer_has_room (Some (AddPage k i reports)) room = let more = h.pages k in omega (arith, more, room)
  proposer_has_room (Some (AddHeard heard)) room = let count = ap (λ (n : Node V). length n.heard) same in let more = h.heard in omega (arith, count, more, room)
  proposer_has_room (Some (CompletePromise heard i reports)) room =
      let count = ap (λ (n : Node V). length n.heard) same in
      let more = h.heard in
      let pages = h.pages heard.node in
      (omega (arith, pages, room.0), omega (arith, count, more, room.1))
  proposer_has_room (Some (Lead b next proposed)) room = let count = ap (λ (n : Node V). length n.waiting) same in omega (arith, count, room)
  proposer_has_room (Some Idle) room = tt

  -- the count of a vote
  has_room_to_count : (s k : ℕ) → CanCount (learner_of c) s k → CanCount (learner_of d) s k
  has_room_to_count s k can = let first = h.tallies in let other_tallies = h.other_tallies in record { slot = omega (arith, first, can.slot); other_tallies = omega (arith, other_tallies, can.other_tallies); node = can.node }

  -- the update of the learner
  learner_has_room : (update : Option (LearnerUpdate V)) → CanUpdateLearner (learner_of c) update → CanUpdateLearner (learner_of d) update
  learner_has_room None room = tt
  learner_has_room (Some (Count s b k)) room = has_room_to_count s k room
  learner_has_room (Some (CountAndLearn s b k v)) room = let more = h.learned in (has_room_to_count s k room.0, omega (arith, more, room.1))
  learner_has_room (Some (Learn s v)) room = let more = h.learned in omega (arith, more, room)

  -- all parts of the step
  pub can_commit : (staged : StagedUpdates V) → CanCommit c staged → CanCommit d staged
  can_commit staged can = record {
    change = record_has_room c.accepted_capacity d.accepted_capacity staged.change h.accepted can.change;
    proposer = proposer_has_room staged.proposer can.proposer;
    learner = learner_has_room staged.learner can.learner;
    node = subst (λ (n : Node V). IsNode (staged_node n staged)) (sym same) can.node;
  }
