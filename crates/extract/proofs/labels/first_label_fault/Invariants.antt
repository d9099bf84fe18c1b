use Rattle.std.proofs.Common.{map}
use Rattle.extract.proofs.LabelsLemmas.{AreFirstValid}
use Rattle.extract.proofs.labels.first_label_fault.Given as goal

abbrev pub invariant-loop-index : goal.invariant-loop-index
invariant-loop-index l = AreFirstValid l.statements (map (λ label. label.now) l.labels) l.index
