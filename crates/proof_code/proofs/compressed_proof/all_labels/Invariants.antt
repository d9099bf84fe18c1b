use Rattle.std.proofs.Common.{◌++◌, ◌-◌, take}
use Rattle.proof_code.proofs.ReadProofLemmas.{AreAdded}
use Rattle.proof_code.proofs.compressed_proof.all_labels.Given as goal

abbrev pub invariant-loop : goal.invariant-loop
invariant-loop l = AreAdded (l.mandatory ++ take l.count l.initial.words) l.labels l.words (l.count - l.counter)
