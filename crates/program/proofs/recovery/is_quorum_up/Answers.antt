-- The marks are whether each node is up.
use Rattle.std.proofs.Common.{ap, ◌∙◌, Bool, false, List, slice_index_or}
use Rattle.synod.specs.Weights.{is_quorum}
use Rattle.program.proofs.recovery.is_quorum_up.Goals as goal

pub returns : goal.returns
returns c = c.is_quorum.ensures ∙ ap (λ (marks : List Bool). is_quorum c.args.weights (λ k. slice_index_or marks k false))
    (c.as_slice.ensures.value ∙ c.in_ok-up.ensures)
