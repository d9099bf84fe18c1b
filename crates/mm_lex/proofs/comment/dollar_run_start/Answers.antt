use Rattle.mm_lex.proofs.Prelude.{refl, take_rest}
use Rattle.mm_lex.proofs.PlainLemmas.{plain_found, plain_unfound}
use Rattle.mm_lex.proofs.comment.dollar_run_start.Goals as goal

pub returns-in-Some : goal.returns-in-Some
returns-in-Some c =
    plain_found c.args.text.now c.args.at c.requires c.in-Some.dollar c.white_end.result _ _ (take_rest c.args.text.now c.args.at) refl
    c.in-Some.ensures.0 c.white_end.ensures.within c.white_end.ensures.white

pub returns-in-None : goal.returns-in-None
returns-in-None c =
    plain_unfound c.args.text.now c.args.at c.requires _ (take_rest c.args.text.now c.args.at) c.in-None.ensures
