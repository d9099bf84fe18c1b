use Rattle.mm_lex.proofs.Prelude.{◌∙◌, ap, sym, arith, take, length, ◌+◌, ◌≤◌, position_or_len, take_rest}
use Rattle.mm_lex.proofs.LanesLemmas.{is_low, ends_here, goes_on}
use Rattle.mm_lex.proofs.lanes.count_visible.Goals as goal

pub returns-then-count-lt-LANES-clause-count : goal.returns-then-count-lt-LANES-clause-count
returns-then-count-lt-LANES-clause-count c =
    let text = c.args.text.now in
    let at = c.loop-at.at in
    let counted = c.count_visible_in_lanes-count.ensures.count ∙ ap (λ r. position_or_len is_low (take 16 r)) (take_rest text at) in
    let room : at + 16 ≤ length text = omega (arith, c.loop-at-test.true, c.loop-at.invariant.0) in
    sym (ends_here text at c.requires room c.loop-at.invariant.1 c.count_visible_in_lanes-count.result counted c.if-count-lt-LANES.true)

pub loop-at-preserved : goal.loop-at-preserved
loop-at-preserved c =
    let text = c.args.text.now in
    let at = c.loop-at.at in
    let count = c.count_visible_in_lanes-count.result in
    let counted = c.count_visible_in_lanes-count.ensures.count ∙ ap (λ r. position_or_len is_low (take 16 r)) (take_rest text at) in
    let room : at + 16 ≤ length text = omega (arith, c.loop-at-test.true, c.loop-at.invariant.0) in
    let inside : at + count ≤ length text = omega (arith, room, c.count_visible_in_lanes-count.ensures.within) in
    (inside, goes_on text at c.requires room c.loop-at.invariant.1 count counted (omega (arith, c.count_visible_in_lanes-count.ensures.within, c.if-count-lt-LANES.false)))
