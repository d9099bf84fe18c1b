use Rattle.verify.proofs.failure.first_failure.Goals as goal

pub returns-in-Right-clause-right : goal.returns-in-Right-clause-right
returns-in-Right-clause-right c = (rw c.in-Right.is at c.in_ok-run.ensures.outcome).0

pub returns-clause-right : goal.returns-clause-right
returns-clause-right c = (rw c.in-Failed.is at c.in_ok-run.ensures.outcome).0

pub returns-clause-first : goal.returns-clause-first
returns-clause-first c = (rw c.in-Failed.is at c.in_ok-run.ensures.outcome).1

pub run-requires : goal.run-requires
run-requires c = (c.requires.0, c.requires.1.stands)
