use Rattle.frame.proofs.Words.{◌≡◌, take, map, decoded_hypothesis, hypothesis_at, typecode_at}
use Rattle.frame.proofs.assertion_parts.encode_hypotheses.Given as goal

abbrev pub invariant-loop-position : goal.invariant-loop-position
invariant-loop-position l = record {
  numbered_hypotheses : map decoded_hypothesis l.numbered_hypotheses.items ≡ map (hypothesis_at l.storage.entries) (take l.position-index l.hypotheses);
  typecodes : l.typecodes.items ≡ map (typecode_at l.storage.entries) (take l.position-index l.hypotheses);
}
