use Rattle.proof_pages.proofs.Words.{◌≡◌, ◌++◌, take, flat_map, symbol_text}
use Rattle.proof_pages.proofs.step_lines.push_expr.Given as goal

abbrev pub invariant-loop-symbol : goal.invariant-loop-symbol
invariant-loop-symbol l = l.text.items ≡ l.initial.text.items ++ flat_map (symbol_text l.frames.names) (take l.symbol-index l.expr)
