use Rattle.mm_read.proofs.Words.{ap, Err, IsFirstBadByte-found, IsFirstBadByte-unique, HasOnlyAllowedBytes-none, Text, tokens_of}
use Rattle.mm_lex.specs.declared.fault.LexFault.TheVariants as lex
use Rattle.mm_read.proofs.OneReading.{bad_no_tokens, bad_no_comment, fault_is, no_bad_byte, the_statements, the_comment_fault, the_shape_fault}
use Rattle.mm_read.proofs.NextLemmas.{on_err}
use Rattle.mm_read.proofs.parse.read.Goals as goal

pub returns-in-Some-clause-fault : goal.returns-in-Some-clause-fault
returns-in-Some-clause-fault c = (IsFirstBadByte-found c.args.text.now c.in-Some.offset c.in-Some.ensures, λ e. cc)

pub returns-in-Some-clause-statements : goal.returns-in-Some-clause-statements
returns-in-Some-clause-statements c = λ S reads.
    let bad = IsFirstBadByte-found c.args.text.now c.in-Some.offset c.in-Some.ensures in
    bad_no_tokens c.args.text.now c.in-Some.offset bad (tokens_of S) reads.tokens

pub returns-in-Some-clause-text_fault : goal.returns-in-Some-clause-text_fault
returns-in-Some-clause-text_fault c = λ offset is.
    let bad = IsFirstBadByte-found c.args.text.now c.in-Some.offset c.in-Some.ensures in
    ap (λ at. Err (Text (lex.Text at))) (IsFirstBadByte-unique c.args.text.now c.in-Some.offset offset bad is)

pub returns-in-Some-clause-comment_fault : goal.returns-in-Some-clause-comment_fault
returns-in-Some-clause-comment_fault c = λ offset is.
    let bad = IsFirstBadByte-found c.args.text.now c.in-Some.offset c.in-Some.ensures in
    bad_no_comment c.args.text.now c.in-Some.offset bad offset is

pub returns-in-Some-clause-shape : goal.returns-in-Some-clause-shape
returns-in-Some-clause-shape c = λ token has.
    let bad = IsFirstBadByte-found c.args.text.now c.in-Some.offset c.in-Some.ensures in
    bad_no_tokens c.args.text.now c.in-Some.offset bad has.0 has.1

pub statements-requires : goal.statements-requires
statements-requires c = HasOnlyAllowedBytes-none c.args.text.now c.in_default.ensures

pub returns-clause-fault : goal.returns-clause-fault
returns-clause-fault c =
    on_err c.statements.result (λ fault is. fault_is c.args.text.now (HasOnlyAllowedBytes-none c.args.text.now c.in_default.ensures) fault is) c.statements.ensures.fault

pub returns-clause-statements : goal.returns-clause-statements
returns-clause-statements c =
    the_statements c.args.text.now (HasOnlyAllowedBytes-none c.args.text.now c.in_default.ensures) (λ v. v.items) c.statements.result c.statements.ensures.found c.statements.ensures.fault

pub returns-clause-text_fault : goal.returns-clause-text_fault
returns-clause-text_fault c = λ offset is. no_bad_byte c.args.text.now (HasOnlyAllowedBytes-none c.args.text.now c.in_default.ensures) offset is

pub returns-clause-comment_fault : goal.returns-clause-comment_fault
returns-clause-comment_fault c =
    the_comment_fault c.args.text.now (HasOnlyAllowedBytes-none c.args.text.now c.in_default.ensures) (λ v. v.items) c.statements.result c.statements.ensures.found c.statements.ensures.fault

pub returns-clause-shape : goal.returns-clause-shape
returns-clause-shape c =
    the_shape_fault c.args.text.now (HasOnlyAllowedBytes-none c.args.text.now c.in_default.ensures) (λ v. v.items) c.statements.result c.statements.ensures.found c.statements.ensures.fault
