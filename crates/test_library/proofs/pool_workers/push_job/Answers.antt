use Rattle.std.proofs.Common.{rules, ◌≡◌, ◌∷◌, ◌++◌, [], sym, subst}
use Rattle.scope.specs.Active.{bare}
use Rattle.verify_pool.specs.declared.job.Job.{Job}
use Rattle.verify_pool.specs.Jobs.{AreJobs}
use Rattle.verify_pool.proofs.JobsLemmas.{same_jobs, next_job}
use Rattle.test_library.proofs.pool_workers.push_job.Goals as goal

pub returns-in_err-ok : goal.returns-in_err-ok
returns-in_err-ok c =
    let same : c.push.new.self.items ≡ c.args.jobs.now.items = search rules in
    subst (AreJobs c.args.frames.now.statements) (sym same)
    (same_jobs c.requires.0 c.args.frames.now.statements (bare c.args.stmt.now) c.args.jobs.now.items c.requires.1 c.requires.2)

pub returns-in_ok-ok : goal.returns-in_ok-ok
returns-in_ok-ok c =
    let job : Job = record { at = c.len-at.result; items = c.ok-items.result } in
    let more : c.push.new.self.items ≡ c.args.jobs.now.items ++ job ∷ [] = search rules in
    subst (AreJobs c.args.frames.now.statements) (sym more)
    (next_job c.requires.0 c.args.frames.now.statements (bare c.args.stmt.now) c.args.jobs.now.items job c.requires.1 c.requires.2 (search rules) c.len-at.ensures)

pub returns-in_default : goal.returns-in_default
returns-in_default c = same_jobs c.requires.0 c.args.frames.now.statements (bare c.args.stmt.now) c.args.jobs.now.items c.requires.1 c.requires.2
