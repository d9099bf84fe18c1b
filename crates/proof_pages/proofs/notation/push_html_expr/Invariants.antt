use Rattle.proof_pages.proofs.Words.{◌≡◌, ◌++◌, take, flat_map, symbol_html}
use Rattle.proof_pages.proofs.notation.push_html_expr.Given as goal

abbrev pub invariant-loop-symbol : goal.invariant-loop-symbol
invariant-loop-symbol l = l.page.items ≡ l.initial.page.items ++ flat_map (symbol_html l.notation.frames.now.names l.notation.css_classes.now.by_symbol.items) (take l.symbol-index l.expr)
