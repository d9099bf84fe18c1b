use Rattle.std.proofs.Common.{arith}
use Rattle.sites.proofs.CitationLemmas.{positions-pushed}
use Rattle.sites.proofs.citations.push_positions.Goals as goal

pub loop-number-preserved : goal.loop-number-preserved
loop-number-preserved c =
    positions-pushed c.args.positions.now c.args.numbers.now c.loop-number.number-index c.args.cited.now.items c.loop-number.cited.items c.push_if_some.new.cited.items c.cited_position.result
    (omega (arith, c.loop-number-test.true)) c.loop-number.invariant c.cited_position.ensures c.in_ok-push_if_some.ensures
