use Rattle.proof_code.proofs.Words.{arith, ◌+◌, subst, ◌≡◌, ◌==◌, drop, slice_index_or, more_labels, listed_count}
use Rattle.proof_code.proofs.ListingLemmas.{listed_count-more}
use Rattle.proof_code.proofs.listing.count_by_byte.Goals as goal

pub loop-index-preserved : goal.loop-index-preserved
loop-index-preserved c =
    let l = c.loop-index in
    let text = c.args.text.now in
    let class = c.class_of-class in
    let start = c.args.last == 32 in
    let read = listed_count-more start text l.index l.count l.before l.invariant.same c.loop-index-test.true class.result class.ensures.class c.if-class-eq-OTHER.false in
    record {
      same = subst (λ n. listed_count start text ≡ more_labels (l.count + n) (listed_count (slice_index_or text l.index 0 == 32) (drop (l.index + 1) text))) (let e = c.from-count.ensures in omega (arith, e)) read;
      few = let b = class.ensures.bound in let o = c.if-class-eq-OTHER.false in let f = l.invariant.few in let e = c.from-count.ensures in omega (arith, b, o, f, e);
    }
