use Rattle.proof_code.proofs.Words.{slice_index_or, refl, arith}
use Rattle.proof_code.proofs.ReadProofLemmas.{next-read, read-more}
use Rattle.proof_code.proofs.letter_numbers.check_letters.Goals as goal

pub loop-byte-preserved : goal.loop-byte-preserved
loop-byte-preserved c =
    let text = c.args.text.now in
    let loop = c.loop-byte in
    let goes = next-read loop.invariant.read.0 loop.state.limit loop.state.digits (slice_index_or text loop.byte-index 0) _ _ _ c.in_ok-check.ensures.some in
    let more = read-more c.args.labels text _ _ _ text _ loop.invariant.read.1 _ _ _ _ refl c.loop-byte-test.true goes in
    record {
      read = (_, rw (← c.advance.ensures.limit, ← c.advance.ensures.digits) at more);
      room = omega (arith, c.advance.ensures.within, loop.invariant.room);
      digits_in_range = rw c.advance.ensures.digits c.in_ok-check.ensures.digits_in_range;
    }
