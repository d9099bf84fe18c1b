use Rattle.mm_lex.proofs.Prelude.{take, arith, length-take-le}
use Rattle.mm_lex.proofs.RunsLemmas.{position_or_len-le}
use Rattle.mm_lex.proofs.LanesLemmas.{is_high, mask_of_high, lowest_high, none_high}
use Rattle.mm_lex.proofs.lanes.count_white_in_lanes.Goals as goal

pub returns-then-mask-eq0-clause-count : goal.returns-then-mask-eq0-clause-count
returns-then-mask-eq0-clause-count c =
    let first = take 16 c.args.text.now in
    let long = length-take-le 16 c.args.text.now c.requires.room in
    none_high first long _ (mask_of_high first long) c.if-mask-eq0.true

pub returns-else-mask-eq0-clause-count : goal.returns-else-mask-eq0-clause-count
returns-else-mask-eq0-clause-count c =
    let first = take 16 c.args.text.now in
    let long = length-take-le 16 c.args.text.now c.requires.room in
    lowest_high first long _ (mask_of_high first long) c.if-mask-eq0.false

pub returns-else-mask-eq0-clause-within : goal.returns-else-mask-eq0-clause-within
returns-else-mask-eq0-clause-within c =
    let first = take 16 c.args.text.now in
    let long = length-take-le 16 c.args.text.now c.requires.room in
    omega (arith, lowest_high first long _ (mask_of_high first long) c.if-mask-eq0.false, position_or_len-le is_high first, long)
