use Rattle.subst.proofs.Words.{◌≡◌, ℕ, ◌||◌, take, has_symbol}
use Rattle.subst.proofs.Members.{has_number}
use Rattle.subst.proofs.symbol_set.SymbolSet.add_all.Given as goal

-- the symbols so far were added
abbrev pub invariant-loop-symbol : goal.invariant-loop-symbol
invariant-loop-symbol l = (x : ℕ) → has_symbol l.self x ≡ (has_number (take l.symbol-index l.list) x || has_symbol l.fn.self x)
