use Rattle.frame.proofs.Words.{◌≡◌, drop, IsEachOnce, float_variables, with_floats}
use Rattle.frame.proofs.pair_buffer.record_variables.Given as goal

-- the variables found, with those of the rest
abbrev pub invariant-loop-i : goal.invariant-loop-i
invariant-loop-i l = record {
  found : with_floats l.found (drop l.i l.hypotheses) ≡ float_variables l.hypotheses;
  once : IsEachOnce l.found;
}
