use Rattle.verify_pool.proofs.Words.{◌≡◌, ◌<◌, Some, length, slice_get, get_or, refl, subst, sym, IfOk, slice_get_read, IsRightAt, IsRightJob}
use Rattle.verify.specs.Right.{IsAnswerIfAny}
use Rattle.verify_pool.proofs.FirstWrongLemmas.{job_judged, counts_nothing}
use Rattle.verify_pool.proofs.job.JobsWork.judge.Goals as goal

pub returns-clause-answer : goal.returns-clause-answer
returns-clause-answer c =
    let jobs = c.self.inside.jobs.now in
    let within : c.args.index < length jobs = subst (λ work. c.args.index < length work.jobs) (sym c.self.view_is) c.requires in
    let found = c.index-self-index in
    let stands : slice_get jobs c.args.index ≡ Some (get_or jobs c.args.index found.result) =
    subst (λ job. slice_get jobs c.args.index ≡ Some job) found.is (slice_get_read jobs (length jobs) c.args.index found.result refl within found.is) in
    subst (λ work. IfOk c.check_job.result (λ answer. IsAnswerIfAny answer (IsRightAt work.statements work.jobs c.args.index))) c.self.view_is
    (job_judged c.self.inside.frames.now.statements jobs c.args.index (get_or jobs c.args.index found.result) c.check_job.result stands c.check_job.ensures)

pub returns-clause-counted : goal.returns-clause-counted
returns-clause-counted c =
    let job = get_or c.self.inside.jobs.now c.args.index c.index-self-index.result in
    counts_nothing (IsRightJob c.self.inside.frames.now.statements job) c.args._meter.now c.check_job.result c.check_job.ensures
