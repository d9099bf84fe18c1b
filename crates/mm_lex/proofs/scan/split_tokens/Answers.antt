use Rattle.mm_lex.proofs.Prelude.{◌∙◌, sym, ap, Err, Ok, Comment}
use Rattle.mm_lex.proofs.Progress.{split_more, split_comment, split_end, stops_closer, stops_nested, stops_unclosed, AreTokens-scan, IsCommentFault-scan, same_fault, no_fault}
use Rattle.mm_lex.proofs.scan.split_tokens.Goals as goal

pub loop-span-preserved : goal.loop-span-preserved
loop-span-preserved c =
    split_more c.loop-span.invariant c.in-Some.span c.in-Some.ensures.run c.requires c.in-Some.ensures.place
    (sym c.if-is_opener.ensures) (sym c.if-is_closer.ensures)
    _ _ c.add_token-allocation_failed.ensures.items c.add_token-allocation_failed.ensures.stays

pub loop-span-preserved-in-Closed : goal.loop-span-preserved-in-Closed
loop-span-preserved-in-Closed c =
    split_comment c.loop-span.invariant c.in-Some.span c.in-Some.ensures.run (sym c.if-is_opener.ensures) c.in-Closed.end c.in-Closed.ensures

pub returns-then-is_closer-clause-comment_fault : goal.returns-then-is_closer-clause-comment_fault
returns-then-is_closer-clause-comment_fault c = λ offset is.
    let s = c.in-Some.span in
    let stops = stops_closer c.loop-span.invariant s c.in-Some.ensures.run (sym c.if-is_closer.ensures) in
    ap (λ at. Err (Comment at)) (same_fault c.args.text.now s.start offset stops is)

pub returns-then-is_closer-clause-fault : goal.returns-then-is_closer-clause-fault
returns-then-is_closer-clause-fault c =
    IsCommentFault-scan c.args.text.now c.in-Some.span.start c.requires
    (stops_closer c.loop-span.invariant c.in-Some.span c.in-Some.ensures.run (sym c.if-is_closer.ensures))

pub returns-in-Nested-clause-comment_fault : goal.returns-in-Nested-clause-comment_fault
returns-in-Nested-clause-comment_fault c = λ offset is.
    let stops = stops_nested c.loop-span.invariant c.in-Some.span c.in-Some.ensures.run (sym c.if-is_opener.ensures) c.in-Nested.offset c.in-Nested.ensures in
    ap (λ at. Err (Comment at)) (same_fault c.args.text.now c.in-Nested.offset offset stops is)

pub returns-in-Nested-clause-fault : goal.returns-in-Nested-clause-fault
returns-in-Nested-clause-fault c =
    IsCommentFault-scan c.args.text.now c.in-Nested.offset c.requires
    (stops_nested c.loop-span.invariant c.in-Some.span c.in-Some.ensures.run (sym c.if-is_opener.ensures) c.in-Nested.offset c.in-Nested.ensures)

pub returns-in-Unclosed-clause-comment_fault : goal.returns-in-Unclosed-clause-comment_fault
returns-in-Unclosed-clause-comment_fault c = λ offset is.
    let stops = stops_unclosed c.loop-span.invariant c.in-Some.span c.in-Some.ensures.run (sym c.if-is_opener.ensures) c.in-Unclosed.ensures in
    ap (λ at. Err (Comment at)) (same_fault c.args.text.now c.in-Some.span.start offset stops is)

pub returns-in-Unclosed-clause-fault : goal.returns-in-Unclosed-clause-fault
returns-in-Unclosed-clause-fault c =
    IsCommentFault-scan c.args.text.now c.in-Some.span.start c.requires
    (stops_unclosed c.loop-span.invariant c.in-Some.span c.in-Some.ensures.run (sym c.if-is_opener.ensures) c.in-Unclosed.ensures)

pub returns-then-allocation_failed-clause-comment_fault : goal.returns-then-allocation_failed-clause-comment_fault
returns-then-allocation_failed-clause-comment_fault c = λ offset is.
    absurd (no_fault c.args.text.now c.loop-span.invariant.tokens offset (split_end c.loop-span.invariant c.in_default.ensures.run) is)

pub returns-clause-tokens : goal.returns-clause-tokens
returns-clause-tokens c =
    AreTokens-scan c.args.text.now c.loop-span.spans.items c.requires (split_end c.loop-span.invariant c.in_default.ensures.run ∙ ap Ok (sym (c.loop-span.invariant.kept c.if-allocation_failed.false)))

pub returns-clause-comment_fault : goal.returns-clause-comment_fault
returns-clause-comment_fault c = λ offset is.
    absurd (no_fault c.args.text.now c.loop-span.invariant.tokens offset (split_end c.loop-span.invariant c.in_default.ensures.run) is)
