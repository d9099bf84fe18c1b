use Rattle.mm_lex.proofs.Prelude.{◌<◌, ◌∙◌, ap, sym, arith, length, take, position_or_len, unwrap_or, length-take-le}
use Rattle.mm_lex.proofs.RunsLemmas.{unwrap_or-position, is_shown}
use Rattle.mm_lex.proofs.LanesLemmas.{high_is_shown, allowed-take, first_among}
use Rattle.mm_lex.proofs.lanes.count_white.Goals as goal

pub returns-then-count-lt-LANES-clause-count : goal.returns-then-count-lt-LANES-clause-count
returns-then-count-lt-LANES-clause-count c =
    let text = c.args.text.now in
    let first = take 16 text in
    let long = length-take-le 16 text (omega (arith, c.if-text-ge-LANES.true)) in
    let counted = c.count_white_in_lanes-count.ensures.count ∙ high_is_shown first (allowed-take 16 text c.requires) in
    let few : position_or_len is_shown first < length first = omega (arith, counted, long, c.if-count-lt-LANES.true) in
    counted ∙ sym (first_among is_shown 16 text few)

pub returns-clause-count : goal.returns-clause-count
returns-clause-count c =
    let text = c.args.text.now in
    c.unwrap_or.ensures ∙ (ap (λ o. unwrap_or o (length text)) c.first_not_white.ensures ∙ unwrap_or-position is_shown text)
