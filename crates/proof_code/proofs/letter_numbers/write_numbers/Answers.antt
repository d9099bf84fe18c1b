use Rattle.proof_code.proofs.Words.{refl, ◌+◌, ◌*◌, ◌≤◌, length, arith}
use Rattle.proof_code.proofs.ReadProofLemmas.{read-more}
use Rattle.proof_code.proofs.letter_numbers.write_numbers.Goals as goal

pub loop-four-preserved : goal.loop-four-preserved
loop-four-preserved c =
    let labels = c.args.labels in
    let text = c.args.text.now in
    let at = 4 * c.loop-four.four in
    let whole : at + 4 ≤ length text = omega (arith, c.loop-four-test.true) in
    let first = read-more labels text _ _ _ text at c.loop-four.invariant.read _ _ _ (at + 1) refl (omega (arith, whole)) c.in_ok-count.ensures.some in
    let second = read-more labels text _ _ _ text (at + 1) first _ _ _ (at + 2) (omega arith) (omega (arith, whole)) c.in_ok-count-2.ensures.some in
    let third = read-more labels text _ _ _ text (at + 2) second _ _ _ (at + 3) (omega arith) (omega (arith, whole)) c.in_ok-count-3.ensures.some in
    record {
      read = read-more labels text _ _ _ text (at + 3) third _ _ _ (4 * (c.loop-four.four + 1)) (omega arith) (omega (arith, whole)) c.in_ok-count-4.ensures.some;
      kept = omega (arith, c.loop-four.invariant.kept, c.in_ok-count.ensures.within, c.in_ok-count-2.ensures.within, c.in_ok-count-3.ensures.within, c.in_ok-count-4.ensures.within);
      room = omega (arith, c.loop-four.invariant.room, c.in_ok-count.ensures.limit, c.in_ok-count-2.ensures.limit, c.in_ok-count-3.ensures.limit, c.in_ok-count-4.ensures.limit);
      digits_in_range = c.in_ok-count-4.ensures.digits_in_range;
    }
