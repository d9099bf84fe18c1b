use Rattle.std.specs.Prelude.{◌≡◌, ◌-◌, length}
use Rattle.proof_pages.specs.LabelPages.{next_of}
use Rattle.proof_pages.proofs.neighbours.next_assertion.Given as goal

abbrev pub invariant-loop-position : goal.invariant-loop-position
invariant-loop-position l = next_of l.statements l.position ≡ next_of l.statements l.at

abbrev pub decreases-loop-position : goal.decreases-loop-position
decreases-loop-position l = length l.statements - l.position
