use Rattle.proof_code.proofs.Words.{arith, ◌+◌, ◌≤◌, ◌∙◌, ap, sym, length, take, are_label_bytes_or_spaces, count_by, take_rest}
use Rattle.proof_code.proofs.ListingLemmas.{listed_count-lanes, is_space}
use Rattle.proof_code.proofs.listing.count_listed.Goals as goal

pub loop-at-preserved : goal.loop-at-preserved
loop-at-preserved c =
    let l = c.loop-at in
    let text = c.args.text.now in
    let room : l.at + 16 ≤ length text = omega (arith, c.loop-at-test.true, l.invariant.within) in
    let listed = ap (λ r. are_label_bytes_or_spaces (take 16 r)) (sym (take_rest text l.at)) ∙ c.in-Some.ensures.listed in
    let spaces = c.in-Some.ensures.spaces ∙ ap (λ r. count_by is_space (take 16 r)) (take_rest text l.at) in
    record {
      same = listed_count-lanes text l.at l.count l.last l.invariant.same room c.in-Some.spaces listed spaces;
      few = omega (arith, l.invariant.few, c.in-Some.ensures.few);
      within = room;
    }
