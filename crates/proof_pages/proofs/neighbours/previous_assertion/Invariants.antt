use Rattle.std.specs.Prelude.{◌≡◌}
use Rattle.proof_pages.specs.LabelPages.{previous_of}
use Rattle.proof_pages.proofs.neighbours.previous_assertion.Given as goal

abbrev pub invariant-loop-position : goal.invariant-loop-position
invariant-loop-position l = previous_of l.statements l.position ≡ previous_of l.statements l.at

abbrev pub decreases-loop-position : goal.decreases-loop-position
decreases-loop-position l = l.position
