use Rattle.rule_violation.proofs.Words.{◌≡◌, drop, list_any, has_name_in}
use Rattle.rule_violation.proofs.search.find_earlier.Given as goal

abbrev pub invariant-loop-i : goal.invariant-loop-i
invariant-loop-i l = list_any (has_name_in l.role l.name) l.earlier ≡ list_any (has_name_in l.role l.name) (drop l.i l.earlier)
