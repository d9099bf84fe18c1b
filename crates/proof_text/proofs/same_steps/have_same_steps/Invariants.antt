use Rattle.std.proofs.Common.{◌≡◌, ℕ, ◌<◌, get_or}
use Rattle.steps.specs.Rows.{no_row}
use Rattle.proof_text.proofs.same_steps.have_same_steps.Given as goal

abbrev pub invariant-loop-place : goal.invariant-loop-place
invariant-loop-place l = (k : ℕ) → k < l.place → (get_or l.left k no_row).step ≡ (get_or l.right k no_row).step
