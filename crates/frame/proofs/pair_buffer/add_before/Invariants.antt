use Rattle.frame.proofs.Words.{take, AddsBefore}
use Rattle.frame.proofs.pair_buffer.add_before.Given as goal

abbrev pub invariant-loop-symbol : goal.invariant-loop-symbol
invariant-loop-symbol l = AddsBefore (take l.index l.variables) (take l.symbol-index l.symbols) l.initial.list l.list
