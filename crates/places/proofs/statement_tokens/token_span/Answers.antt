use Rattle.places.proofs.Words.{◌≡◌, ◌∙◌, Comment}
use Rattle.places.proofs.TokenSpanLemmas.{counted_is, passed_on, span_is}
use Rattle.places.proofs.statement_tokens.token_span.Goals as goal

pub returns-clause-token : goal.returns-clause-token
returns-clause-token c S reads h = span_is c.args.text.now c.in_ok-spans.spans.items S c.args.statement c.args.token c.in_ok-spans.ensures.tokens reads h c.counted_token.result
    ((rw c.as_slice.ensures.value at c.counted_token.ensures) ∙ counted_is c.args.text.now c.in_ok-spans.spans.items c.args.statement c.args.token h.statement_from_one h.token_from_one)

pub returns-in_err-spans-clause-comment_fault : goal.returns-in_err-spans-clause-comment_fault
returns-in_err-spans-clause-comment_fault c = λ offset is.
    let told = c.in_err-spans.ensures.comment_fault offset is in
    let same : c.in_err-spans.field-0.0 ≡ Comment offset = cc in
    passed_on c.from_residual.result c.in_err-spans.field-0.0 (Comment offset) c.from_residual.ensures.1 same

pub returns-clause-comment_fault : goal.returns-clause-comment_fault
returns-clause-comment_fault c = λ offset is. let told = c.in_ok-spans.ensures.comment_fault offset is in cc
