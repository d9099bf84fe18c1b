use Rattle.synod.proofs.Words.{◌≡◌, ◌≤◌, ◌-◌, ◌++◌, take, replicate, All}
use Rattle.synod.proofs.weights.Weights.new.Given as goal

abbrev pub invariant-loop-i : goal.invariant-loop-i
invariant-loop-i l = record {
  padded_weights : l.padded_weights ≡ take l.i l.numbers ++ replicate (9 - l.i) 0;
  each : All (λ w. (1 ≤ w) × (w ≤ 100)) (take l.i l.numbers);
}
