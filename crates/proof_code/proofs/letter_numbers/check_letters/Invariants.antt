use Rattle.std.proofs.Common.{ℕ, ◌+◌, ◌≤◌, List, drop}
use Rattle.proof_code.proofs.ReadProofLemmas.{IsRead}
use Rattle.proof_code.proofs.letter_numbers.check_letters.Given as goal

abbrev pub invariant-loop-byte : goal.invariant-loop-byte
invariant-loop-byte l = record {
  read : (numbers : List ℕ) × IsRead l.labels l.text l.state.limit l.state.digits numbers (drop l.byte-index l.text);
  room : l.state.limit ≤ l.labels + l.byte-index;
  digits_in_range : l.state.digits ≤ l.digits_limit;
}
