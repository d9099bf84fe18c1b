-- A node as contracts see it: its state, and the capacity that it has reserved.
-- Source: this project stages a step, which reserves capacity, before it commits it.
-- The code has a struct for each of the three parts of a node, with its own capacity.
use Rattle.std.specs.Prelude.{ℕ, Bool, List, Option}
use Rattle.synod.specs.Words.{Ballot, SlotReport, Role, Heard, Tally}
use Rattle.synod.specs.Record.{KeptPart, RecordView}
use Rattle.synod.specs.Node.{Node}

-- the proposer's part of a node
pub record ProposerState (V : Type 0) : Type 0 where
  pub role : Role
  pub pages : List (List (Option (List (SlotReport V))))
  pub heard : List Heard
  pub waiting : List V

pub record ProposerView (V : Type 0) : Type 0 where
  pub state : ProposerState V
  pub page_capacities : List ℕ
  pub heard_capacity : ℕ
  pub waiting_capacity : ℕ

-- the learner's part of a node
pub record LearnerState (V : Type 0) : Type 0 where
  pub tallies : List (Option (List Tally))
  pub learned : List (Option (Option V))

-- the votes under ballots other than the one first counted at their slot, by slot and ballot, and
-- the number of further tallies for which memory is reserved
pub record OtherTalliesView : Type 0 where
  pub votes : List ((ℕ × Ballot) × List Bool)
  pub capacity : ℕ

pub record LearnerView (V : Type 0) : Type 0 where
  pub state : LearnerState V
  pub tallies_capacity : ℕ
  pub other_tallies_capacity : ℕ
  pub learned_capacity : ℕ

abbrev pub proposer_state : {V : Type 0} → Node V → ProposerState V
proposer_state n = record { role = n.role; pages = n.pages; heard = n.heard; waiting = n.waiting }

abbrev pub learner_state : {V : Type 0} → Node V → LearnerState V
learner_state n = record { tallies = n.tallies; learned = n.learned }

-- a node assembled from its parts
abbrev pub assembled : {V : Type 0} → ℕ → List ℕ → KeptPart V → ProposerState V → LearnerState V → Node V
assembled me weights kept p l = record {
  me = me;
  weights = weights;
  promise = kept.promise;
  round = kept.round;
  accepted = kept.accepted;
  role = p.role;
  pages = p.pages;
  heard = p.heard;
  waiting = p.waiting;
  tallies = l.tallies;
  learned = l.learned;
}

-- `NodeCore` as contracts see it
pub record Core (V : Type 0) : Type 0 where
  pub node : Node V
  pub accepted_capacity : ℕ
  pub page_capacities : List ℕ
  pub heard_capacity : ℕ
  pub waiting_capacity : ℕ
  pub tallies_capacity : ℕ
  pub other_tallies_capacity : ℕ
  pub learned_capacity : ℕ

abbrev pub core_of : {V : Type 0} → ℕ → List ℕ → RecordView V → ProposerView V → LearnerView V → Core V
core_of me weights r p l = record {
  node = assembled me weights r.kept p.state l.state;
  accepted_capacity = r.capacity;
  page_capacities = p.page_capacities;
  heard_capacity = p.heard_capacity;
  waiting_capacity = p.waiting_capacity;
  tallies_capacity = l.tallies_capacity;
  other_tallies_capacity = l.other_tallies_capacity;
  learned_capacity = l.learned_capacity;
}
