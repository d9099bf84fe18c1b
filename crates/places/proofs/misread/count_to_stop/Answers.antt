use Rattle.places.proofs.Words.{◌∙◌, sym, arith, Span}
use Rattle.places.proofs.MisreadLemmas.{stop-here, stop-on}
use Rattle.places.proofs.misread.count_to_stop.Goals as goal

pub returns-then-is_stop-clause-count : goal.returns-then-is_stop-clause-count
returns-then-is_stop-clause-count c =
    let d : Span = record { start = 0; end = 0 } in
    let here = stop-here c.args.text.now c.args.spans.now c.loop-i.i d c.loop-i-test.true (sym c.is_stop.ensures ∙ c.if-is_stop.true) in
    let so_far = c.loop-i.invariant in
    omega (arith, here, so_far)

pub loop-i-preserved : goal.loop-i-preserved
loop-i-preserved c =
    let d : Span = record { start = 0; end = 0 } in
    let on = stop-on c.args.text.now c.args.spans.now c.loop-i.i d c.loop-i-test.true (sym c.is_stop.ensures ∙ c.if-is_stop.false) in
    let so_far = c.loop-i.invariant in
    omega (arith, on, so_far)
