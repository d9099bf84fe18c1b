use Rattle.mm_lex.proofs.Prelude.{take, arith, length-take-le}
use Rattle.mm_lex.proofs.RunsLemmas.{position_or_len-le}
use Rattle.mm_lex.proofs.FirstSpaceLemmas.{is_space, mask_of_spaces, lowest_space}
use Rattle.mm_lex.proofs.word_iter.count_before_space.Goals as goal

pub returns-else-mask-eq0-clause-count : goal.returns-else-mask-eq0-clause-count
returns-else-mask-eq0-clause-count c =
    let first = take 8 c.args.text.now in
    let long = length-take-le 8 c.args.text.now c.requires.room in
    lowest_space first long _ (mask_of_spaces first long) c.if-mask-eq0.false

pub returns-else-mask-eq0-clause-within : goal.returns-else-mask-eq0-clause-within
returns-else-mask-eq0-clause-within c =
    let first = take 8 c.args.text.now in
    let long = length-take-le 8 c.args.text.now c.requires.room in
    omega (arith, lowest_space first long _ (mask_of_spaces first long) c.if-mask-eq0.false, position_or_len-le is_space first, long)
