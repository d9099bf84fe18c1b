use Rattle.run_pictures.proofs.Words.{◌≡◌, ◌++◌, ◌-◌, stumps_of, stumps_from, packets_of}
use Rattle.run_pictures.proofs.stumps.stumps_of_step.Given as goal

abbrev pub invariant-loop-number : goal.invariant-loop-number
invariant-loop-number l =
    l.stumps.items ++ stumps_from (packets_of l.world) l.shown l.number (l.fn.step.end_post - l.number)
    ≡ stumps_of (packets_of l.world) l.shown l.fn.step
