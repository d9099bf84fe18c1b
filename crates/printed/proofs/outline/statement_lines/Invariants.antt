use Rattle.printed.proofs.Words.{◌≡◌, ◌+◌, ◌++◌, drop, outline_lines}
use Rattle.printed.proofs.outline.statement_lines.Given as goal

abbrev pub invariant-loop-index : goal.invariant-loop-index
invariant-loop-index l = l.bytes.items ++ outline_lines (l.index + 1) (drop l.index l.statements) ≡ outline_lines 1 l.statements
