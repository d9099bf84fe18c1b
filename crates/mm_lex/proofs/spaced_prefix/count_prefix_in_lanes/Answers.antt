use Rattle.mm_lex.proofs.Prelude.{take, drop, arith, length-take-le, length-drop}
use Rattle.mm_lex.proofs.SpacedPrefixLemmas.{none_set, first_set, few_set}
use Rattle.mm_lex.proofs.spaced_prefix.count_prefix_in_lanes.Goals as goal

pub returns-then-mask-eq0-clause-count : goal.returns-then-mask-eq0-clause-count
returns-then-mask-eq0-clause-count c =
    let text = c.args.text.now in
    let long = length-take-le 16 text (omega (arith, c.requires.room)) in
    let other = length-take-le 16 (drop 1 text) (omega (arith, c.requires.room, length-drop 1 text)) in
    none_set (take 16 text) (take 16 (drop 1 text)) long other c.if-mask-eq0.true

pub returns-else-mask-eq0-clause-count : goal.returns-else-mask-eq0-clause-count
returns-else-mask-eq0-clause-count c =
    let text = c.args.text.now in
    let long = length-take-le 16 text (omega (arith, c.requires.room)) in
    let other = length-take-le 16 (drop 1 text) (omega (arith, c.requires.room, length-drop 1 text)) in
    first_set (take 16 text) (take 16 (drop 1 text)) long other c.if-mask-eq0.false

pub returns-else-mask-eq0-clause-within : goal.returns-else-mask-eq0-clause-within
returns-else-mask-eq0-clause-within c =
    let text = c.args.text.now in
    let long = length-take-le 16 text (omega (arith, c.requires.room)) in
    let other = length-take-le 16 (drop 1 text) (omega (arith, c.requires.room, length-drop 1 text)) in
    omega (arith, first_set (take 16 text) (take 16 (drop 1 text)) long other c.if-mask-eq0.false, few_set (take 16 text) (take 16 (drop 1 text)) long other)
