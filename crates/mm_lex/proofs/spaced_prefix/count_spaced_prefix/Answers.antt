use Rattle.mm_lex.proofs.Prelude.{◌∙◌, ◌≡◌, ap, sym, subst, arith, drop, length, ◌+◌, ◌<◌, ◌≤◌, take_rest, spaced_prefix_len}
use Rattle.mm_lex.proofs.SpacedPrefixLemmas.{lanes_count, prefix_goes_on, prefix_ends}
use Rattle.mm_lex.proofs.spaced_prefix.count_spaced_prefix.Goals as goal

pub returns-then-count-lt-LANES-clause-count : goal.returns-then-count-lt-LANES-clause-count
returns-then-count-lt-LANES-clause-count c =
    let text = c.args.text.now in
    let at = c.loop-at.at in
    let counted = c.count_prefix_in_lanes-count.ensures.count ∙ ap (lanes_count 16) (take_rest text at) in
    let room : at + 16 < length text = omega (arith, c.loop-at-test.true, c.loop-at.invariant.0) in
    sym (prefix_ends text at room c.loop-at.invariant.1 c.count_prefix_in_lanes-count.result counted c.if-count-lt-LANES.true)

pub loop-at-preserved : goal.loop-at-preserved
loop-at-preserved c =
    let text = c.args.text.now in
    let at = c.loop-at.at in
    let count = c.count_prefix_in_lanes-count.result in
    let counted = c.count_prefix_in_lanes-count.ensures.count ∙ ap (lanes_count 16) (take_rest text at) in
    let room : at + 16 < length text = omega (arith, c.loop-at-test.true, c.loop-at.invariant.0) in
    let all : count ≡ 16 = omega (arith, c.count_prefix_in_lanes-count.ensures.within, c.if-count-lt-LANES.false) in
    let inside : at + 16 ≤ length text = omega (arith, room) in (
      inside,
      subst (λ n. spaced_prefix_len text ≡ at + n + spaced_prefix_len (drop (at + n) text)) all
          (prefix_goes_on text at room c.loop-at.invariant.1 count counted (omega (arith, all))),
    )
