use Rattle.std.proofs.Common.{◌∙◌, ap, length}
use Rattle.std.specs.Option.{unwrap_or}
use Rattle.mm_lex.specs.Alphabet.{is_white}
use Rattle.mm_lex.proofs.RunsLemmas.{unwrap_or-position}
use Rattle.text.proofs.run.count_nonwhite.Goals as goal

pub returns-clause-count : goal.returns-clause-count
returns-clause-count c =
    let text = c.args.text.now in
    c.unwrap_or.ensures ∙ (ap (λ o. unwrap_or o (length text)) c.first_white.ensures ∙ unwrap_or-position is_white text)
