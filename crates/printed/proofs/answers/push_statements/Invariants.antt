use Rattle.printed.proofs.Words.{◌≡◌, ◌++◌, take, export_of}
use Rattle.printed.proofs.answers.push_statements.Given as goal

abbrev pub invariant-loop-statement : goal.invariant-loop-statement
invariant-loop-statement l = l.text.items ≡ l.initial.text.items ++ export_of (take l.statement-index l.statements)
