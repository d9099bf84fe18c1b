use Rattle.proof_code.proofs.LabelNameLemmas.{NamesTo}
use Rattle.proof_code.proofs.compressed_proof.label_set.Given as goal

abbrev pub invariant-loop-label : goal.invariant-loop-label
invariant-loop-label l = NamesTo l.labels l.left l.names
