use Rattle.verify_pool.proofs.Words.{IsRightAt, length}
use Rattle.verify_pool.proofs.FirstWrongLemmas.{first_wrong_job, never_costly, no_wrong_job}
use Rattle.verify_pool.proofs.job.check_all.Goals as goal

pub returns-in-Wrong : goal.returns-in-Wrong
returns-in-Wrong g c =
    first_wrong_job c.args.frames.now.statements c.args.jobs.now (λ _. 0) c.in-Wrong.index c.new-meter.result (rw c.in-Wrong.is at c.in_ok-index.ensures).0

pub returns-in-AllRight : goal.returns-in-AllRight
returns-in-AllRight g c = no_wrong_job c.args.frames.now.statements c.args.jobs.now (λ _. 0) c.new-meter.result (rw c.in-AllRight.is at c.in_ok-index.ensures).0

pub unreachable-requires : goal.unreachable-requires
unreachable-requires g c =
    never_costly (IsRightAt c.args.frames.now.statements c.args.jobs.now) (λ _. 0) (length c.args.jobs.now) c.in-TooCostly.field-0 c.new-meter.result c.new-meter.ensures.limit (rw c.in-TooCostly.is at c.in_ok-index.ensures)
