use Rattle.finding.proofs.LineWords.{ℕ, ◌<◌, ◌≤◌, length, get_or, IsActiveHypothesis}
use Rattle.finding.proofs.hypotheses.trimmed_len.Given as goal

abbrev pub invariant-loop-remaining : goal.invariant-loop-remaining
invariant-loop-remaining l = record {
  within : l.remaining ≤ length l.positions;
  gone : (k : ℕ) → l.remaining ≤ k → k < length l.positions → IsActiveHypothesis l.frames.statements l.at (get_or l.positions k 0) → ⊥;
}

abbrev pub decreases-loop-remaining : goal.decreases-loop-remaining
decreases-loop-remaining l = l.remaining
