use Rattle.verify.proofs.PlanLemmas.{plan-start}
use Rattle.verify.proofs.plan.plan_of.Goals as goal

pub returns-in-Right-clause-planned : goal.returns-in-Right-clause-planned
returns-in-Right-clause-planned c =
    let right = rw c.in-Right.is at c.in_ok-run.ensures.outcome in
    let heard = rw c.in-Right.is at (c.in_ok-run.ensures.heard (plan-start c.args.frames.now c.args.at c.new-plan.result c.new-plan.ensures.0 c.new-plan.ensures.1 c.new-plan.ensures.2)) in
    record { right = right.0; is_plan = heard.is_plan; grown = heard.grown }

pub returns-in-Failed-clause-planned : goal.returns-in-Failed-clause-planned
returns-in-Failed-clause-planned c = (rw c.in-Failed.is at c.in_ok-run.ensures.outcome).0

pub run-requires : goal.run-requires
run-requires c = (c.requires.0, c.requires.1.stands)
