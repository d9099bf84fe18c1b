use Rattle.steps.proofs.Words.{◌≡◌, ◌++◌, drop, taken_for_essentials}
use Rattle.steps.proofs.essential.premises_among.Given as goal

abbrev pub invariant-loop-k : goal.invariant-loop-k
invariant-loop-k l = l.list.items ++ taken_for_essentials (drop l.k l.hypotheses) (drop l.k l.taken) ≡ taken_for_essentials l.hypotheses l.taken
