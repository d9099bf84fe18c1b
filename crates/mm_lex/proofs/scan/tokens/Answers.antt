use Rattle.mm_lex.proofs.Prelude.{◌∙◌, ap, Err, Text}
use Rattle.mm_lex.proofs.RunsLemmas.{found_at}
use Rattle.mm_lex.proofs.BadByteLemmas.{is_bad, IsFirstBadByte-found, IsFirstBadByte-place, HasOnlyAllowedBytes-none, HasOnlyAllowedBytes-no_fault}
use Rattle.mm_lex.proofs.scan.tokens.Goals as goal

pub returns-in-Some-clause-text_fault : goal.returns-in-Some-clause-text_fault
returns-in-Some-clause-text_fault c = λ offset is.
    let here = found_at is_bad c.args.text.now c.in-Some.offset c.in-Some.ensures in
    ap (λ at. Err (Text at)) (here.0 ∙ IsFirstBadByte-place c.args.text.now offset is)

pub returns-in-Some-clause-comment_fault : goal.returns-in-Some-clause-comment_fault
returns-in-Some-clause-comment_fault c = λ offset is.
    absurd (HasOnlyAllowedBytes-no_fault c.args.text.now c.in-Some.offset is.0 (IsFirstBadByte-found c.args.text.now c.in-Some.offset c.in-Some.ensures))

pub returns-in-Some-clause-fault : goal.returns-in-Some-clause-fault
returns-in-Some-clause-fault c = IsFirstBadByte-found c.args.text.now c.in-Some.offset c.in-Some.ensures

pub split_tokens-requires : goal.split_tokens-requires
split_tokens-requires c = HasOnlyAllowedBytes-none c.args.text.now c.in_default.ensures

pub returns-clause-text_fault : goal.returns-clause-text_fault
returns-clause-text_fault c = λ offset is.
    absurd (HasOnlyAllowedBytes-no_fault c.args.text.now offset (HasOnlyAllowedBytes-none c.args.text.now c.in_default.ensures) is)
