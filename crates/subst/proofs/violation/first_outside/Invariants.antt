use Rattle.subst.proofs.Words.{◌≡◌, true, take, list_all, has_symbol}
use Rattle.subst.proofs.violation.first_outside.Given as goal

-- the symbols so far are in the set
abbrev pub invariant-loop-symbol : goal.invariant-loop-symbol
invariant-loop-symbol l = list_all (has_symbol l.set) (take l.symbol-index l.list) ≡ true
