use Rattle.library.proofs.Words.{◌≡◌, take, listed}
use Rattle.library.proofs.library.Library.list.Given as goal

abbrev pub invariant-loop-statement : goal.invariant-loop-statement
invariant-loop-statement l = l.list.items ≡ listed (take l.statement-index l.statement-items)
