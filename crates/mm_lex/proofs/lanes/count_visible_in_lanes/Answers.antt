use Rattle.mm_lex.proofs.Prelude.{take, arith, length-take-le}
use Rattle.mm_lex.proofs.RunsLemmas.{position_or_len-le}
use Rattle.mm_lex.proofs.LanesLemmas.{is_low, mask_of_low, lowest_low}
use Rattle.mm_lex.proofs.lanes.count_visible_in_lanes.Goals as goal

pub returns-else-mask-eq0-clause-count : goal.returns-else-mask-eq0-clause-count
returns-else-mask-eq0-clause-count c =
    let first = take 16 c.args.text.now in
    let long = length-take-le 16 c.args.text.now c.requires.room in
    lowest_low first long _ (mask_of_low first long) c.if-mask-eq0.false

pub returns-else-mask-eq0-clause-within : goal.returns-else-mask-eq0-clause-within
returns-else-mask-eq0-clause-within c =
    let first = take 16 c.args.text.now in
    let long = length-take-le 16 c.args.text.now c.requires.room in
    omega (arith, lowest_low first long _ (mask_of_low first long) c.if-mask-eq0.false, position_or_len-le is_low first, long)
