use Rattle.cluster.proofs.Words.{◌≡◌, drop, first_with_key}
use Rattle.cluster.proofs.asking.is_first_with_key.Given as goal

abbrev pub invariant-loop-found : goal.invariant-loop-found
invariant-loop-found l = first_with_key l.entry l.entries ≡ first_with_key l.entry (drop l.found-index l.entries)
