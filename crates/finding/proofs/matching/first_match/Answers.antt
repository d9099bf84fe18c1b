use Rattle.finding.proofs.PatternPrelude.{◌≡◌, sym, arith, length, below_more, eqb-true, eqb-false, length-map}
use Rattle.finding.proofs.SegmentLemmas.{begins_len, first_here, none_here, end_here, begins_at}
use Rattle.finding.proofs.matching.first_match.Goals as goal

pub loop-index-preserved : goal.loop-index-preserved
loop-index-preserved c =
    below_more _ _ c.loop-index.invariant
    (begins_at (λ s. s.now) c.args.segment.now c.args.symbols.now c.loop-index.index _ _ c.split_at.ensures.back (sym c.if-matches_prefix.ensures))

pub returns-then-matches_prefix-clause-first : goal.returns-then-matches_prefix-clause-first
returns-then-matches_prefix-clause-first c =
    first_here (λ s. s.now) c.args.segment.now c.args.symbols.now c.loop-index.index (omega arith)
    (begins_at (λ s. s.now) c.args.segment.now c.args.symbols.now c.loop-index.index _ _ c.split_at.ensures.back (sym c.if-matches_prefix.ensures)) c.loop-index.invariant

pub returns-then-matches_prefix-clause-within : goal.returns-then-matches_prefix-clause-within
returns-then-matches_prefix-clause-within c =
    let enough = begins_len c.args.segment.now _ (sym c.if-matches_prefix.ensures) in
    let count = length-map c.split_at.result.1.now (λ s. s.now) in
    omega (arith, enough, count, c.split_at.ensures.back_len)

pub returns-then-is_empty-clause-first : goal.returns-then-is_empty-clause-first
returns-then-is_empty-clause-first c =
    end_here (λ s. s.now) c.args.segment.now c.args.symbols.now c.loop-index.index (omega arith) c.loop-index.invariant (eqb-true _ _ (sym c.if-is_empty.ensures))

pub returns-then-is_empty-clause-within : goal.returns-then-is_empty-clause-within
returns-then-is_empty-clause-within c = let none : length c.args.segment.now ≡ 0 = eqb-true _ _ (sym c.if-is_empty.ensures) in omega (arith, none)

pub returns-else-is_empty-clause-first : goal.returns-else-is_empty-clause-first
returns-else-is_empty-clause-first c =
    let some : length c.args.segment.now ≡ 0 → ⊥ = eqb-false _ _ (sym c.if-is_empty.ensures) in
    none_here (λ s. s.now) c.args.segment.now c.args.symbols.now c.loop-index.index (omega arith) c.loop-index.invariant (omega (arith, some))
