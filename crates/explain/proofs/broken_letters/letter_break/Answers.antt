use Rattle.explain.proofs.Words.{arith, sym, ◌∙◌, slice_get-get_or, NotEnded}
use Rattle.explain.proofs.LetterLemmas.{read-none, all-read, ends-here, broken-at, some-begun, nothing-left}
use Rattle.explain.proofs.broken_letters.letter_break.Goals as goal

pub loop-i-init : goal.loop-i-init
loop-i-init c = read-none c.args.label_count c.args.letters.now (sym c.begins_with_mark.ensures ∙ c.if-begins_with_mark.false)

pub read-requires-clause-room : goal.read-requires-clause-room
read-requires-clause-room c =
    let l = c.loop-i.invariant.limit_is in let f = c.loop-i.invariant.few in let t = c.loop-i-test.true in let q = c.requires in omega (arith, l, f, t, q)

pub read-requires-clause-small : goal.read-requires-clause-small
read-requires-clause-small c = c.loop-i.invariant.small

pub returns-in-Err : goal.returns-in-Err
returns-in-Err c = c.in-Err.ensures c.args.label_count c.args.letters.now c.loop-i.invariant (slice_get-get_or c.args.letters.now c.loop-i.i 0 c.loop-i-test.true)

pub loop-i-preserved : goal.loop-i-preserved
loop-i-preserved c = c.in-Ok.ensures c.args.label_count c.args.letters.now c.loop-i.invariant (slice_get-get_or c.args.letters.now c.loop-i.i 0 c.loop-i-test.true)

pub returns-then-state-eq0 : goal.returns-then-state-eq0
returns-then-state-eq0 c names count = all-read _ _ _ _ _ _ c.loop-i.invariant names count (ends-here _ _ _ _ _ _ c.loop-i.invariant (let t = c.loop-i-test.false in omega (arith, t)) c.if-state-eq0.true)

pub returns-else-state-eq0 : goal.returns-else-state-eq0
returns-else-state-eq0 c names count =
    let r = c.loop-i.invariant in
    broken-at _ _ _ _ _ _ r names count c.broken.result NotEnded c.loop-i.state.begin c.broken.ensures.fault c.broken.ensures.letter
    (some-begun _ _ _ _ _ _ r c.if-state-eq0.false, nothing-left _ _ _ _ _ _ r (let t = c.loop-i-test.false in omega (arith, t))) (sym r.at_begin)
