use Rattle.verify.proofs.Words.{take, AreEntries}
use Rattle.verify.proofs.label_table.fill_table.Given as goal

abbrev pub invariant-loop-position : goal.invariant-loop-position
invariant-loop-position l = AreEntries l.frames.statements l.at (take l.position-index l.labels) l.table.items
