use Rattle.std.proofs.Common.{◌≡◌, ◌++◌, drop, false}
use Rattle.places.specs.RefusedBytes.{refused_runs}
use Rattle.places.proofs.refused_bytes.refused_runs.Given as goal

abbrev pub invariant-loop-at : goal.invariant-loop-at
invariant-loop-at l = l.offsets.items ++ refused_runs l.at l.is_inside (drop l.at l.text) ≡ refused_runs 0 false l.text
