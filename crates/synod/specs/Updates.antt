-- The updates that a staged step makes to the proposer and to the learner.
-- Source: this project stages a step before it commits it.
-- The code moves them into the node, which does not allocate.
use Rattle.std.specs.Prelude.{◌<◌, ◌≤◌, ◌++◌, ℕ, [], ◌∷◌, Option, Some, None, length, drop, slice_index_or}
use Rattle.synod.specs.Words.{put_at, Preparing, Leading, MAX_NODES}
use Rattle.synod.specs.declared.proposer.Role.TheVariants.{Idle as RoleIdle}
use Rattle.synod.specs.declared.proposer.ProposerUpdate.{ProposerUpdate}
use Rattle.synod.specs.declared.proposer.ProposerUpdate.TheVariants.{AddWaiting, Propose, Begin, AddPage, AddHeard, CompletePromise, Lead, Idle}
use Rattle.synod.specs.declared.learner.LearnerUpdate.{LearnerUpdate}
use Rattle.synod.specs.declared.learner.LearnerUpdate.TheVariants.{Count, CountAndLearn, Learn}
use Rattle.synod.specs.Learner.{counted}
use Rattle.synod.specs.Core.{ProposerState, ProposerView, LearnerState, LearnerView}
use Rattle.synod.specs.Stored.ReceivedPages.{entries_of, put_page}

abbrev pub proposer_after : {V : Type 0} → ProposerState V → Option (ProposerUpdate V) → ProposerState V
proposer_after p None = p
proposer_after p (Some (AddWaiting v)) = record p { waiting = p.waiting ++ v ∷ [] }
proposer_after p (Some (Propose b next)) = record p { role = Leading b next }
proposer_after p (Some (Begin b first pages)) = record p { role = Preparing b first; pages = entries_of pages; heard = [] }
proposer_after p (Some (AddPage k i reports)) = record p { pages = put_page p.pages k i reports }
proposer_after p (Some (AddHeard h)) = record p { heard = p.heard ++ h ∷ [] }
proposer_after p (Some (CompletePromise h i reports)) = record p { pages = put_page p.pages h.node i reports; heard = p.heard ++ h ∷ [] }
proposer_after p (Some (Lead b next proposed)) = record p { role = Leading b next; pages = []; heard = []; waiting = drop proposed p.waiting }
proposer_after p (Some Idle) = record p { role = RoleIdle }

abbrev pub CanUpdateProposer : {V : Type 0} → ProposerView V → Option (ProposerUpdate V) → Type 0
CanUpdateProposer p None = Unit {0}
CanUpdateProposer p (Some (AddWaiting v)) = length p.state.waiting < p.waiting_capacity
CanUpdateProposer p (Some (Propose b next)) = Unit {0}
CanUpdateProposer p (Some (Begin b first pages)) = Unit {0}
CanUpdateProposer p (Some (AddPage k i reports)) = i < slice_index_or p.page_capacities k 0
CanUpdateProposer p (Some (AddHeard h)) = length p.state.heard < p.heard_capacity
CanUpdateProposer p (Some (CompletePromise h i reports)) = (i < slice_index_or p.page_capacities h.node 0) × (length p.state.heard < p.heard_capacity)
CanUpdateProposer p (Some (Lead b next proposed)) = proposed ≤ length p.state.waiting
CanUpdateProposer p (Some Idle) = Unit {0}

abbrev pub learner_after : {V : Type 0} → LearnerState V → Option (LearnerUpdate V) → LearnerState V
learner_after l None = l
learner_after l (Some (Count s b k)) = record l { tallies = counted l.tallies s b k }
learner_after l (Some (CountAndLearn s b k v)) = record l { tallies = counted l.tallies s b k; learned = put_at l.learned s v }
learner_after l (Some (Learn s v)) = record l { learned = put_at l.learned s v }

-- there is capacity for a vote of node k at a slot, under any ballot
pub record CanCount {V : Type 0} (l : LearnerView V) (s k : ℕ) : Type 0 where
  pub slot : s < l.tallies_capacity
  pub other_tallies : 0 < l.other_tallies_capacity
  pub node : k < MAX_NODES

abbrev pub CanUpdateLearner : {V : Type 0} → LearnerView V → Option (LearnerUpdate V) → Type 0
CanUpdateLearner l None = Unit {0}
CanUpdateLearner l (Some (Count s b k)) = CanCount l s k
CanUpdateLearner l (Some (CountAndLearn s b k v)) = CanCount l s k × (s < l.learned_capacity)
CanUpdateLearner l (Some (Learn s v)) = s < l.learned_capacity
