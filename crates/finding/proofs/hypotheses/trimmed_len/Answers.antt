use Rattle.finding.proofs.LineWords.{arith, both_ways}
use Rattle.finding.proofs.HypothesesLemmas.{gone-more, left-none}
use Rattle.finding.proofs.hypotheses.trimmed_len.Goals as goal

pub loop-remaining-preserved : goal.loop-remaining-preserved
loop-remaining-preserved c =
    let i = c.loop-remaining.invariant in
    let within = i.within in
    record {
      within = omega (arith, within);
      gone = gone-more c.args.frames.now.statements c.args.at c.args.positions.now c.loop-remaining.remaining i.within i.gone _ c.loop-remaining-test.true (λ h. both_ways c.is_active.result c.if-is_active.false (c.is_active.ensures.1 h));
    }

pub returns : goal.returns
returns c =
    let i = c.loop-remaining.invariant in
    left-none c.args.frames.now.statements c.args.at c.args.positions.now c.loop-remaining.remaining i.within i.gone (omega arith)
