use Rattle.mm_lex.proofs.Prelude.{◌∙◌, ap, ◌-◌, ◌<◌, length, take, drop, refl, arith, position_or_len, take_rest, is_white}
use Rattle.mm_lex.proofs.RunsLemmas.{is_shown, no_run, next_run-whole, next_run-place}
use Rattle.mm_lex.proofs.LanesLemmas.{allowed-drop, allowed-take}
use Rattle.mm_lex.proofs.visible_run.next_run.Goals as goal

pub count_white-white-requires : goal.count_white-white-requires
count_white-white-requires c = allowed-take (length c.args.text.now - c.args.at) (drop c.args.at c.args.text.now) (allowed-drop c.args.at c.args.text.now c.requires.allowed)

pub count_visible-visible-requires : goal.count_visible-visible-requires
count_visible-visible-requires c =
    let text = c.args.text.now in
    let rest = take (length text - c.args.at) (drop c.args.at text) in
    let white = c.count_white-white.result in
    let allowed = allowed-take (length text - c.args.at) (drop c.args.at text) (allowed-drop c.args.at text c.requires.allowed) in
    allowed-take (length rest - white) (drop white rest) (allowed-drop white rest allowed)

pub returns-then-white-rest-clause-run : goal.returns-then-white-rest-clause-run
returns-then-white-rest-clause-run c =
    let text = c.args.text.now in
    let rest = take_rest text c.args.at in
    let blanks = c.count_white-white.ensures.count ∙ ap (position_or_len is_shown) rest in
    no_run text c.args.at c.count_white-white.result _ c.requires.place blanks refl (c.if-white-rest.true ∙ ap length rest)

pub returns-clause-run : goal.returns-clause-run
returns-clause-run c =
    let text = c.args.text.now in
    let at = c.args.at in
    let white = c.count_white-white.result in
    let rest = take_rest text at in
    let part = take (length text - at) (drop at text) in
    let blanks = c.count_white-white.ensures.count ∙ ap (position_or_len is_shown) rest in
    let shown = c.count_visible-visible.ensures.count ∙ (ap (position_or_len is_white) (take_rest part white) ∙ ap (λ r. position_or_len is_white (drop white r)) rest) in
    let inside : white < length (drop at text) = omega (arith, ap length rest) in
    next_run-whole text at white c.count_visible-visible.result c.requires.place blanks shown inside

pub returns-clause-place : goal.returns-clause-place
returns-clause-place c =
    let text = c.args.text.now in
    let at = c.args.at in
    let white = c.count_white-white.result in
    let rest = take_rest text at in
    let part = take (length text - at) (drop at text) in
    let blanks = c.count_white-white.ensures.count ∙ ap (position_or_len is_shown) rest in
    let shown = c.count_visible-visible.ensures.count ∙ (ap (position_or_len is_white) (take_rest part white) ∙ ap (λ r. position_or_len is_white (drop white r)) rest) in
    let inside : white < length (drop at text) = omega (arith, ap length rest) in
    next_run-place text at white c.count_visible-visible.result c.requires.place blanks shown inside
