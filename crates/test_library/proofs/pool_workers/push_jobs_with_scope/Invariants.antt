use Rattle.std.proofs.Common.{◌≡◌}
use Rattle.verify_pool.specs.Jobs.{AreJobs}
use Rattle.test_library.proofs.pool_workers.push_jobs_with_scope.Given as goal

abbrev pub invariant-loop-stmt : goal.invariant-loop-stmt
invariant-loop-stmt l = record {
  same : l.scope.statements ≡ l.frames.statements;
  jobs : AreJobs l.frames.statements l.jobs.items;
}
