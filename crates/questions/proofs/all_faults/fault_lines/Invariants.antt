use Rattle.std.specs.Prelude.{◌≡◌, take, flat_map}
use Rattle.questions.specs.AllFaults.{fault_line}
use Rattle.questions.proofs.all_faults.fault_lines.Given as goal

abbrev pub invariant-loop-fault : goal.invariant-loop-fault
invariant-loop-fault l = l.lines.items ≡ flat_map fault_line (take l.fault-index l.faults)
