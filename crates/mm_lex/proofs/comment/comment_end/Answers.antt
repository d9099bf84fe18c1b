use Rattle.mm_lex.proofs.Prelude.{sym, bytes_eq-Decides}
use Rattle.mm_lex.proofs.Progress.{passes_on, inside_more, inside_closed, inside_nested}
use Rattle.mm_lex.proofs.ScanResults.{plain}
use Rattle.mm_lex.proofs.comment.comment_end.Goals as goal

pub loop-span-preserved : goal.loop-span-preserved
loop-span-preserved c =
    let s = c.in-Some.span in
    let is_plain = plain c.args.text.now s (sym c.if-is_opener.ensures) (sym c.if-is_closer.ensures) in
    inside_more (passes_on c.loop-span.invariant c.dollar_run_start.ensures) s c.in-Some.ensures.run c.in-Some.ensures.place c.in-Some.ensures.later is_plain

pub returns-then-is_closer : goal.returns-then-is_closer
returns-then-is_closer c =
    inside_closed (passes_on c.loop-span.invariant c.dollar_run_start.ensures) c.in-Some.span c.in-Some.ensures.run c.in-Some.ensures.place c.in-Some.ensures.later
    ((bytes_eq-Decides _ _).0 (sym c.if-is_closer.ensures))

pub returns-then-is_opener : goal.returns-then-is_opener
returns-then-is_opener c =
    inside_nested (passes_on c.loop-span.invariant c.dollar_run_start.ensures) c.in-Some.span c.in-Some.ensures.run c.in-Some.ensures.place c.in-Some.ensures.later
    ((bytes_eq-Decides _ _).0 (sym c.if-is_opener.ensures))
