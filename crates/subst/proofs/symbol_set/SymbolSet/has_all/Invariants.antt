use Rattle.subst.proofs.Words.{◌≡◌, take, list_all, has_symbol}
use Rattle.subst.proofs.symbol_set.SymbolSet.has_all.Given as goal

-- the answer for the symbols so far
abbrev pub invariant-loop-symbol : goal.invariant-loop-symbol
invariant-loop-symbol l = l.all ≡ list_all (has_symbol l.self) (take l.symbol-index l.list)
