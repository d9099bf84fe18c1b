use Rattle.frame.proofs.Words.{◌≡◌, ◌||◌, ◌&&◌, drop, list_any, Name, has_name, is_variable, is_mandatory, is_in_essential}
use Rattle.frame.proofs.one_frame.mandatory_variables.Given as goal

abbrev pub invariant-loop-entry : goal.invariant-loop-entry
invariant-loop-entry l = (x : Name) → (has_name x l.used || (is_variable l.scope.statements x && list_any (is_in_essential x) (drop l.entry-index l.entry-items))) ≡ is_mandatory l.scope.statements l.stmt x
