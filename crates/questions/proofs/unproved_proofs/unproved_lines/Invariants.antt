use Rattle.std.specs.Prelude.{◌≡◌, take, flat_map}
use Rattle.questions.specs.AllFaults.{unproved_line}
use Rattle.questions.proofs.unproved_proofs.unproved_lines.Given as goal

abbrev pub invariant-loop-at : goal.invariant-loop-at
invariant-loop-at l = l.lines.items ≡ flat_map (unproved_line l.database) (take l.at-index l.unproved)
