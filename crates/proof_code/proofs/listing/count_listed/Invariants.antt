use Rattle.proof_code.proofs.Words.{◌≡◌, ◌≤◌, ◌-◌, length, true, drop, ◌==◌, more_labels, listed_count}
use Rattle.proof_code.proofs.listing.count_listed.Given as goal

abbrev pub invariant-loop-at : goal.invariant-loop-at
invariant-loop-at l = record {
  same : listed_count true l.text ≡ more_labels l.count (listed_count (l.last == 32) (drop l.at l.text));
  few : l.count ≤ l.at;
  within : l.at ≤ length l.text;
}

abbrev pub decreases-loop-at : goal.decreases-loop-at
decreases-loop-at l = length l.text - l.at
