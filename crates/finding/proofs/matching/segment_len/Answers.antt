use Rattle.finding.proofs.PatternPrelude.{sym, arith}
use Rattle.finding.proofs.SegmentLemmas.{segment_on, segment_end, segment_all}
use Rattle.finding.proofs.matching.segment_len.Goals as goal

pub loop-i-preserved : goal.loop-i-preserved
loop-i-preserved c =
    let one = segment_on c.args.parts.now c.loop-i.i _ c.loop-i-test.true (sym c.if-is_any_sequence.ensures) in
    omega (arith, one, c.loop-i.invariant)

pub returns-then-is_any_sequence-clause-count : goal.returns-then-is_any_sequence-clause-count
returns-then-is_any_sequence-clause-count c =
    let none = segment_end c.args.parts.now c.loop-i.i _ c.loop-i-test.true (sym c.if-is_any_sequence.ensures) in
    omega (arith, none, c.loop-i.invariant)

pub returns-clause-count : goal.returns-clause-count
returns-clause-count c = segment_all c.args.parts.now c.loop-i.i (omega arith) c.loop-i.invariant
