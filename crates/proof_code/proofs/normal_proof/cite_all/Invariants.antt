use Rattle.proof_code.proofs.Words.{◌≡◌, ◌+◌, map, range_with_len}
use Rattle.proof_code.proofs.normal_proof.cite_all.Given as goal

abbrev pub invariant-loop-index : goal.invariant-loop-index
invariant-loop-index l = l.numbers.items ≡ map (λ k. k + 1) (range_with_len 0 l.index)
