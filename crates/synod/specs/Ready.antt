-- A staged step: the node that staged it, and the step.
-- Source: this project stores the change of a step once the step is staged, and before it is
-- committed.
-- The code stores the updates to apply. The step is their result.
use Rattle.std.specs.Prelude.{◌≡◌, Some, Result, Ok, Err}
use Rattle.synod.specs.Words.{Refusal, Memory}
use Rattle.synod.specs.declared.ready.StagedUpdates.{StagedUpdates}
use Rattle.synod.specs.declared.proposer.ProposerUpdate.{ProposerUpdate}
use Rattle.synod.specs.declared.learner.LearnerUpdate.{LearnerUpdate}
use Rattle.synod.specs.Record.{changed_by, HasCapacityFor}
use Rattle.synod.specs.Node.{Node, StepResult, kept_of}
use Rattle.synod.specs.Step.{IsNode}
use Rattle.synod.specs.Core.{Core, ProposerView, LearnerView, proposer_state, learner_state, assembled}
use Rattle.synod.specs.Updates.{proposer_after, learner_after, CanUpdateProposer, CanUpdateLearner}

-- the node as it was when it staged the step, and the step
pub record ReadyView (V : Type 0) : Type 0 where
  pub before : Core V
  pub step : StepResult V

-- the node once the updates are applied
abbrev pub staged_node : {V : Type 0} → Node V → StagedUpdates V → Node V
staged_node n staged =
    assembled n.me n.weights (changed_by (kept_of n) staged.change) (proposer_after (proposer_state n) staged.proposer) (learner_after (learner_state n) staged.learner)

abbrev pub proposer_of : {V : Type 0} → Core V → ProposerView V
proposer_of c = record { state = proposer_state c.node; page_capacities = c.page_capacities; heard_capacity = c.heard_capacity; waiting_capacity = c.waiting_capacity }

abbrev pub learner_of : {V : Type 0} → Core V → LearnerView V
learner_of c = record { state = learner_state c.node; tallies_capacity = c.tallies_capacity; other_tallies_capacity = c.other_tallies_capacity; learned_capacity = c.learned_capacity }

-- there is capacity for all updates, and the node after them meets the invariant
pub record CanCommit {V : Type 0} (c : Core V) (staged : StagedUpdates V) : Type 0 where
  pub change : HasCapacityFor c.accepted_capacity staged.change
  pub proposer : CanUpdateProposer (proposer_of c) staged.proposer
  pub learner : CanUpdateLearner (learner_of c) staged.learner
  pub node : IsNode (staged_node c.node staged)

-- the staged step is this one, of this node
abbrev pub IsReadyFor : {V : Type 0} → Core V → StepResult V → ReadyView V → Type 0
IsReadyFor core step ready = (ready.before ≡ core) × (ready.step ≡ step)

-- the step is staged; or its refusal is returned, or Memory if it meets none
abbrev pub IsStagingResult : {V : Type 0} → Core V → Result (StepResult V) Refusal → Result (ReadyView V) Refusal → Type 0
IsStagingResult core (Ok step) (Ok ready) = IsReadyFor core step ready
IsStagingResult core (Ok step) (Err refusal) = refusal ≡ Memory
IsStagingResult core (Err met) (Err refusal) = refusal ≡ met
IsStagingResult core (Err met) (Ok ready) = ⊥

-- the node once its learner or its proposer is updated
abbrev pub with_learner_update : {V : Type 0} → Node V → LearnerUpdate V → Node V
with_learner_update n update = assembled n.me n.weights (kept_of n) (proposer_state n) (learner_after (learner_state n) (Some update))

abbrev pub with_proposer_update : {V : Type 0} → Node V → ProposerUpdate V → Node V
with_proposer_update n update = assembled n.me n.weights (kept_of n) (proposer_after (proposer_state n) (Some update)) (learner_state n)
