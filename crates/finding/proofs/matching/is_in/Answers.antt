use Rattle.std.proofs.Common.{arith}
use Rattle.finding.proofs.SegmentLemmas.{goes_on_none}
use Rattle.finding.proofs.PatternLemmas.{no_match, last_match, next_segment}
use Rattle.finding.proofs.matching.is_in.Goals as goal

pub segments-init : goal.segments-init
segments-init c = record { parts = omega arith; symbols = omega arith; goes = goes_on_none _ _ }

pub segments-preserved : goal.segments-preserved
segments-preserved c = record {
  parts = omega (arith, c.split_at.ensures.back_len, c.segment_len-len.ensures.within, c.if-len-left.false);
  symbols = omega (arith, c.split_at-in-segments.ensures.back_len, c.split_at-in-segments-2.ensures.front_len, c.in-Some.ensures.within);
  goes = next_segment (λ s. s.now) c.args.parts.now c.args.symbols.now c.segments.from c.segments.at c.segment_len-len.result _ _ _
      (record { left_is = c.split_at.ensures.back; rest_is = c.split_at-in-segments.ensures.back; len_is = c.segment_len-len.ensures.count; segment_is = c.split_at-in-segments-2.ensures.front })
      c.segments.invariant.goes c.in-Some.index c.in-Some.ensures.first c.if-len-left.false c.segment_len-len.ensures.within;
}

pub returns-in_default : goal.returns-in_default
returns-in_default c =
    no_match (λ s. s.now) c.args.parts.now c.args.symbols.now c.segments.from c.segments.at c.segment_len-len.result _ _ _
    (record { left_is = c.split_at.ensures.back; rest_is = c.split_at-in-segments.ensures.back; len_is = c.segment_len-len.ensures.count; segment_is = c.split_at-in-segments-2.ensures.front })
    c.segments.invariant.goes c.in_default.ensures.first

pub returns-then-len-left : goal.returns-then-len-left
returns-then-len-left c =
    last_match (λ s. s.now) c.args.parts.now c.args.symbols.now c.segments.from c.segments.at c.segment_len-len.result _ _ _
    (record { left_is = c.split_at.ensures.back; rest_is = c.split_at-in-segments.ensures.back; len_is = c.segment_len-len.ensures.count; segment_is = c.split_at-in-segments-2.ensures.front })
    c.segments.invariant.goes c.in-Some.index c.in-Some.ensures.first c.if-len-left.true
