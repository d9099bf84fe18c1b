use Rattle.proof_code.proofs.Words.{◌≡◌, ap, arith, length, nat_tests}
use Rattle.proof_code.proofs.TextLemmas.{length-spaced}
use Rattle.proof_code.proofs.compressed_proof.count_labels.Goals as goal

pub returns-then-is_empty-clause-count : goal.returns-then-is_empty-clause-count
returns-then-is_empty-clause-count c =
    let none : length c.as_text.result.now ≡ 0 = grind (arith, nat_tests, c.is_empty.ensures, c.if-is_empty.true) in
    omega (arith, none, ap length c.as_text.ensures.text, length-spaced c.args.labels.now c.as_text.ensures.words)

pub returns-clause-few : goal.returns-clause-few
returns-clause-few c = omega (arith, c.len.ensures, c.as_text.type_inv, ap length c.as_text.ensures.text, length-spaced c.args.labels.now c.as_text.ensures.words)
