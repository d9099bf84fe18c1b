use Rattle.std.proofs.Common.{◌∙◌, ap, drop, arith, ◌<◌, length, refl}
use Rattle.std.specs.List.{position_or_len}
use Rattle.mm_lex.specs.Alphabet.{is_white}
use Rattle.mm_lex.proofs.RunsLemmas.{is_shown, no_run, next_run-whole, next_run-place}
use Rattle.text.proofs.run.next_run.Goals as goal

pub returns-then-white-rest-clause-run : goal.returns-then-white-rest-clause-run
returns-then-white-rest-clause-run c =
    let text = c.args.text.now in
    let blanks = c.count_white-white.ensures.count ∙ ap (position_or_len is_shown) c.split_at.ensures.back in
    no_run text c.args.at c.count_white-white.result _ c.requires blanks refl (c.if-white-rest.true ∙ ap length c.split_at.ensures.back)

pub returns-clause-run : goal.returns-clause-run
returns-clause-run c =
    let text = c.args.text.now in
    let at = c.args.at in
    let white = c.count_white-white.result in
    let back = c.split_at.ensures.back in
    let blanks = c.count_white-white.ensures.count ∙ ap (position_or_len is_shown) back in
    let from_run = c.count_nonwhite-nonwhite.ensures.count ∙ ap (position_or_len is_white) (c.split_at-2.ensures.back ∙ ap (drop white) back) in
    let inside : white < length (drop at text) = omega (arith, ap length back) in
    next_run-whole text at white c.count_nonwhite-nonwhite.result c.requires blanks from_run inside

pub returns-clause-is_run : goal.returns-clause-is_run
returns-clause-is_run c =
    let text = c.args.text.now in
    let at = c.args.at in
    let white = c.count_white-white.result in
    let back = c.split_at.ensures.back in
    let blanks = c.count_white-white.ensures.count ∙ ap (position_or_len is_shown) back in
    let from_run = c.count_nonwhite-nonwhite.ensures.count ∙ ap (position_or_len is_white) (c.split_at-2.ensures.back ∙ ap (drop white) back) in
    let inside : white < length (drop at text) = omega (arith, ap length back) in
    next_run-place text at white c.count_nonwhite-nonwhite.result c.requires blanks from_run inside
