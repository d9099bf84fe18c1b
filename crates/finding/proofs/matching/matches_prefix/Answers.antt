use Rattle.finding.proofs.PatternPrelude.{◌∙◌, sym, arith, map, List, length-map, Name}
use Rattle.finding.proofs.SegmentLemmas.{too_few, begins_on, begins_not, begins_all}
use Rattle.finding.proofs.matching.matches_prefix.Goals as goal

pub returns-then-segment-symbols : goal.returns-then-segment-symbols
returns-then-segment-symbols c =
    let names : List Name = map (λ s. s.now) c.args.symbols.now in
    sym (too_few c.args.segment.now names (omega (arith, length-map c.args.symbols.now (λ s. s.now), c.if-segment-symbols.true)))

pub loop-i-preserved : goal.loop-i-preserved
loop-i-preserved c =
    c.loop-i.invariant ∙ begins_on (λ s. s.now) c.args.segment.now c.args.symbols.now c.loop-i.i _ _ c.loop-i-test.true (omega arith) (sym c.if-not-matches_symbol.ensures)

pub returns-then-not-matches_symbol : goal.returns-then-not-matches_symbol
returns-then-not-matches_symbol c =
    sym (c.loop-i.invariant ∙ begins_not (λ s. s.now) c.args.segment.now c.args.symbols.now c.loop-i.i _ _ c.loop-i-test.true (omega arith) (sym c.if-not-matches_symbol.ensures))

pub returns : goal.returns
returns c = sym (c.loop-i.invariant ∙ begins_all c.args.segment.now c.loop-i.i (omega arith) _)
