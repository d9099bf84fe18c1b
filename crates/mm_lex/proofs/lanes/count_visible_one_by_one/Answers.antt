use Rattle.mm_lex.proofs.Prelude.{◌∙◌, ap, length, unwrap_or, is_white}
use Rattle.mm_lex.proofs.RunsLemmas.{unwrap_or-position}
use Rattle.mm_lex.proofs.lanes.count_visible_one_by_one.Goals as goal

pub returns-clause-count : goal.returns-clause-count
returns-clause-count c =
    let text = c.args.text.now in
    c.unwrap_or.ensures ∙ (ap (λ o. unwrap_or o (length text)) c.first_white.ensures ∙ unwrap_or-position is_white text)
