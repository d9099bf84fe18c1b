use Rattle.proof_code.proofs.Words.{◌≡◌, ◌≤◌, drop, ◌==◌, more_labels, listed_count}
use Rattle.proof_code.proofs.listing.count_by_byte.Given as goal

abbrev pub invariant-loop-index : goal.invariant-loop-index
invariant-loop-index l = record {
  same : listed_count (l.last == 32) l.text ≡ more_labels l.count (listed_count (l.before == 32) (drop l.index l.text));
  few : l.count ≤ l.index;
}
