use Rattle.frame.proofs.Words.{◌≡◌, ◌||◌, ◌&&◌, Name, has_name, is_variable}
use Rattle.frame.proofs.one_frame.record_variables.Given as goal

abbrev pub invariant-loop-symbol : goal.invariant-loop-symbol
invariant-loop-symbol l = (x : Name) → (has_name x l.used || (is_variable l.scope.statements x && has_name x l.symbol-iterator)) ≡ (has_name x l.fn.used || (is_variable l.scope.statements x && has_name x l.expr))
