use Rattle.proof_pages.proofs.Words.{◌≡◌, ◌++◌, take, flat_map, quoted_symbol}
use Rattle.proof_pages.proofs.graph.push_quoted_others.Given as goal

abbrev pub invariant-loop-symbol : goal.invariant-loop-symbol
invariant-loop-symbol l = l.text.items ≡ l.initial.text.items ++ flat_map (quoted_symbol l.frames.names) (take l.symbol-index l.symbols)
