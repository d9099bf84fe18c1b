use Rattle.verify.proofs.LabelTableLemmas.{AreAdded}
use Rattle.verify.proofs.label_table.add_listed.Given as goal

abbrev pub invariant-loop : goal.invariant-loop
invariant-loop l = AreAdded l.frames.statements l.at l.initial.words l.words l.counter l.initial.table.items l.table.items
