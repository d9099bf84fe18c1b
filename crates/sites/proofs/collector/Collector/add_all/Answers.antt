use Rattle.std.proofs.Common.{arith}
use Rattle.sites.proofs.ListLemmas.{has-next, has-all}
use Rattle.sites.proofs.collector.Collector.add_all.Goals as goal

pub loop-position-preserved : goal.loop-position-preserved
loop-position-preserved c =
    has-next c.args.positions.now c.loop-position.position-index c.args.self.now c.loop-position.self c.add.new.self (omega (arith, c.loop-position-test.true)) c.loop-position.invariant c.in_ok-add.ensures

pub returns : goal.returns
returns c = has-all c.args.positions.now c.loop-position.position-index c.args.self.now c.loop-position.self (omega (arith, c.loop-position-test.false)) c.loop-position.invariant
