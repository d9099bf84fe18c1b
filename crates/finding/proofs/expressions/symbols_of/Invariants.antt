use Rattle.std.proofs.Common.{◌≡◌}
use Rattle.finding.proofs.expressions.symbols_of.Given as goal

abbrev pub invariant-loop-symbol : goal.invariant-loop-symbol
invariant-loop-symbol l = l.symbols.items ≡ l.yielded
