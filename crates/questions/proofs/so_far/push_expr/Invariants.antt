use Rattle.std.specs.Prelude.{◌≡◌, ◌++◌, take, flat_map}
use Rattle.proof_pages.specs.StepLines.{symbol_text}
use Rattle.questions.proofs.so_far.push_expr.Given as goal

abbrev pub invariant-loop-symbol : goal.invariant-loop-symbol
invariant-loop-symbol l = l.lines.items ≡ l.initial.lines.items ++ flat_map (symbol_text l.frames.names) (take l.symbol-index l.expr)
