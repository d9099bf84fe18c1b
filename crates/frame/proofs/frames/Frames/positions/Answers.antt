use Rattle.frame.proofs.AssertionViewLemmas.{all-legal}
use Rattle.frame.proofs.PositionLemmas.{positions-more}
use Rattle.frame.proofs.frames.Frames.positions.Goals as goal

pub loop-label-preserved : goal.loop-label-preserved
loop-label-preserved c =
    positions-more c.args.self.now.statements c.loop-label.yielded c.in-Some.label c.loop-label.positions.items c.push.new.self.items c.position.result
    c.loop-label.invariant c.in_ok-push.ensures.items c.position.ensures

pub returns-in_err-push-clause-legal : goal.returns-in_err-push-clause-legal
returns-in_err-push-clause-legal c = rw (← c.self.view_is) (all-legal c.self.inside.storage c.self.invariant)

pub returns-clause-legal : goal.returns-clause-legal
returns-clause-legal c = rw (← c.self.view_is) (all-legal c.self.inside.storage c.self.invariant)
