use Rattle.frame.proofs.Words.{◌≡◌, ◌++◌, take, recorded_in}
use Rattle.frame.proofs.disjoint_groups.add_group.Given as goal

abbrev pub invariant-loop-code : goal.invariant-loop-code
invariant-loop-code l = l.grouped_variables.items ≡ l.initial.grouped_variables.items ++ recorded_in l.variables (take l.code-index l.codes)
