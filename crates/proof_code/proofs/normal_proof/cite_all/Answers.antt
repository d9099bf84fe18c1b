use Rattle.proof_code.proofs.Words.{◌≡◌, ◌+◌, length, arith, sym, map-range_with_len_more}
use Rattle.proof_code.proofs.AnswersLemmas.{items_of-all}
use Rattle.proof_code.proofs.normal_proof.cite_all.Goals as goal

pub loop-index-preserved : goal.loop-index-preserved
loop-index-preserved c = rw (c.in_ok-push.ensures.items, c.loop-index.invariant) (sym (map-range_with_len_more (λ k. k + 1) 0 c.loop-index.index c.loop-index.index (omega arith)))

pub returns : goal.returns
returns c =
    let all : c.loop-index.index ≡ length c.args.labels.now = omega (arith, c.len.ensures, c.in-Ok.ensures) in
    rw (c.from_parts.ensures, c.in_ok-copy.ensures, c.loop-index.invariant, all) (items_of-all c.args.labels.now)
