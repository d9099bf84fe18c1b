use Rattle.std.proofs.Common.{◌+◌, ◌*◌, ◌≤◌, length, take, drop}
use Rattle.proof_code.proofs.ReadProofLemmas.{IsRead}
use Rattle.proof_code.proofs.letter_numbers.write_numbers.Given as goal

abbrev pub invariant-loop-four : goal.invariant-loop-four
invariant-loop-four l = record {
  read : IsRead l.labels l.text l.state.limit l.state.digits (take l.count l.numbers) (drop (4 * l.four) l.text);
  kept : l.count ≤ 4 * l.four;
  room : l.state.limit ≤ l.labels + 4 * l.four;
  digits_in_range : l.state.digits ≤ l.state.limit;
}

abbrev pub invariant-loop-byte : goal.invariant-loop-byte
invariant-loop-byte l = record {
  read : IsRead l.labels l.text l.state.limit l.state.digits (take l.count l.numbers) (drop l.byte-index l.byte-items);
  kept : l.count + length l.byte-items ≤ length l.text + l.byte-index;
  room : l.state.limit + length l.byte-items ≤ l.labels + length l.text + l.byte-index;
  digits_in_range : l.state.digits ≤ l.state.limit;
}
