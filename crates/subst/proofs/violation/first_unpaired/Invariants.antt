use Rattle.frame.specs.ListsOfPairs.{is_numbered_pair}
use Rattle.subst.proofs.Words.{◌≡◌, true, take, list_all}
use Rattle.subst.proofs.violation.first_unpaired.Given as goal

-- the variables so far are pairs with all others
abbrev pub invariant-loop-variable : goal.invariant-loop-variable
invariant-loop-variable l = list_all (λ u. list_all (is_numbered_pair l.pairs u) l.others) (take l.variable-index l.variables) ≡ true
