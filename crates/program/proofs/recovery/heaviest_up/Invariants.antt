-- No node so far is up and heavier.
use Rattle.std.proofs.Common.{◌<◌, ◌≤◌, ℕ}
use Rattle.program.specs.Recovery.{weight_up}
use Rattle.program.proofs.recovery.heaviest_up.Given as goal

abbrev pub invariant-loop-k : goal.invariant-loop-k
invariant-loop-k l = (k : ℕ) → k < l.k → weight_up l.weights l.nodes k ≤ weight_up l.weights l.nodes l.best
