use Rattle.std.proofs.Common.{◌≡◌, ◌-◌, ◌++◌, replicate}
use Rattle.synod.proofs.weights.Weights.equal.Given as goal

abbrev pub invariant-loop-i : goal.invariant-loop-i
invariant-loop-i l = l.padded_weights ≡ replicate l.i 1 ++ replicate (9 - l.i) 0
