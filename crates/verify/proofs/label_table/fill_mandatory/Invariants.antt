use Rattle.std.proofs.Common.{◌≡◌, map, take}
use Rattle.verify.specs.declared.label_table.LabelEntry.TheVariants.{Hypothesis}
use Rattle.verify.proofs.label_table.fill_mandatory.Given as goal

abbrev pub invariant-loop-position : goal.invariant-loop-position
invariant-loop-position l = l.table.items ≡ map Hypothesis (take l.position-index l.position-items)
