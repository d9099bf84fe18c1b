use Rattle.mm_lex.proofs.LanesLemmas.{allowed-take}
use Rattle.places.proofs.CommentFaultLemmas.{nested_is, unclosed_is}
use Rattle.places.proofs.comments.comment_fault_kind.Goals as goal

pub count_tokens-requires-clause-allowed : goal.count_tokens-requires-clause-allowed
count_tokens-requires-clause-allowed c = allowed-take c.args.offset c.args.text.now c.requires.0

pub returns-in-Ok : goal.returns-in-Ok
returns-in-Ok c = let counted = c.in-Ok.ensures.count in unclosed_is c.args.text.now c.args.offset counted.1.0 c.requires.1 c.if-text-offset-eq41.false counted.1.1

pub returns-in-Err-Comment : goal.returns-in-Err-Comment
returns-in-Err-Comment c = nested_is c.args.text.now c.args.offset c.in-Err-Comment.outer c.requires.1 c.if-text-offset-eq41.false (rw c.in-Err-Comment.field-0-is at c.in-Err-Comment.ensures.fault)
