use Rattle.places.proofs.Words.{words, BeginsStatement}
use Rattle.places.proofs.statement_tokens.statement_start_index.Given as goal

abbrev pub invariant-loop-i : goal.invariant-loop-i
invariant-loop-i l = BeginsStatement (words l.text l.fn.spans) l.i l.start
