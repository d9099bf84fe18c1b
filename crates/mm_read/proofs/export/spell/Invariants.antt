use Rattle.mm_read.proofs.Words.{◌≡◌, take, export_of}
use Rattle.mm_read.proofs.export.spell.Given as goal

abbrev pub invariant-loop-statement : goal.invariant-loop-statement
invariant-loop-statement l = l.text.items ≡ export_of (take l.statement-index l.statements)
