use Rattle.mm_lex.proofs.Prelude.{◌∙◌, ap, length, drop, ◌-◌, position_or_len, take_rest}
use Rattle.mm_lex.proofs.RunsLemmas.{is_shown, skip_white, shown_after}
use Rattle.mm_lex.proofs.LanesLemmas.{allowed-drop, allowed-take}
use Rattle.mm_lex.proofs.visible_run.skip_white.Goals as goal

pub count_white-requires : goal.count_white-requires
count_white-requires c = allowed-take (length c.args.text.now - c.args.at) (drop c.args.at c.args.text.now) (allowed-drop c.args.at c.args.text.now c.requires.allowed)

pub returns-clause-runs : goal.returns-clause-runs
returns-clause-runs c =
    let blanks = c.count_white.ensures.count ∙ ap (position_or_len is_shown) (take_rest c.args.text.now c.args.at) in
    skip_white c.args.text.now c.args.at c.count_white.result c.requires.place blanks

pub returns-clause-not_white : goal.returns-clause-not_white
returns-clause-not_white c = λ inside.
    let blanks = c.count_white.ensures.count ∙ ap (position_or_len is_shown) (take_rest c.args.text.now c.args.at) in
    shown_after c.args.text.now c.args.at c.count_white.result c.requires.place blanks inside
