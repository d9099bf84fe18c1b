use Rattle.mm_lex.proofs.Prelude.{sym, bytes_eq-Decides}
use Rattle.mm_lex.proofs.ScanResults.{plain}
use Rattle.mm_lex.proofs.BetweenLemmas.{between_none, between_on, between_comment, after_on, none_after}
use Rattle.mm_lex.proofs.NextRunLemmas.{next_is, stops_stray, stops_nested, stops_unclosed}
use Rattle.mm_lex.proofs.walk.next_token.Goals as goal

pub loop-run-init : goal.loop-run-init
loop-run-init c = between_none c.args.at c.requires.place

pub returns-then-not-is_opener-clause-next : goal.returns-then-not-is_opener-clause-next
returns-then-not-is_opener-clause-next c =
    let run = c.in-Some.ensures in
    next_is c.loop-run.invariant c.in-Some.run' run.run c.requires.allowed run.place run.later (plain c.args.text.now c.in-Some.run' (sym c.if-not-is_opener.ensures) (sym c.if-is_closer.ensures))

pub loop-run-preserved : goal.loop-run-preserved
loop-run-preserved c =
    let run = c.in-Some.ensures in
    between_on c.loop-run.invariant
    (between_comment c.loop-run.from c.in-Some.run' run.run run.place run.later ((bytes_eq-Decides _ _).0 (sym c.if-not-is_opener.ensures)) c.in-Closed.end c.in-Closed.ensures)

pub returns-then-is_closer-clause-fault : goal.returns-then-is_closer-clause-fault
returns-then-is_closer-clause-fault c =
    stops_stray c.loop-run.invariant c.in-Some.run' c.in-Some.ensures.run ((bytes_eq-Decides _ _).0 (sym c.if-is_closer.ensures))

pub returns-in-Nested-clause-fault : goal.returns-in-Nested-clause-fault
returns-in-Nested-clause-fault c =
    stops_nested c.loop-run.invariant c.in-Some.run' c.in-Some.ensures.run ((bytes_eq-Decides _ _).0 (sym c.if-not-is_opener.ensures)) c.in-Nested.offset c.in-Nested.ensures

pub returns-in-Unclosed-clause-fault : goal.returns-in-Unclosed-clause-fault
returns-in-Unclosed-clause-fault c =
    stops_unclosed c.loop-run.invariant c.in-Some.run' c.in-Some.ensures.run ((bytes_eq-Decides _ _).0 (sym c.if-not-is_opener.ensures)) c.in-Unclosed.ensures

pub returns-clause-next : goal.returns-clause-next
returns-clause-next c = after_on c.loop-run.invariant (none_after c.loop-run.from c.in_default.ensures.run)
