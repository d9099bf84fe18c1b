use Rattle.library.specs.ProofJobs.{AreProvablesAfter}
use Rattle.library.proofs.proof_jobs.judge_proofs.Given as goal

abbrev pub invariant-loop-index : goal.invariant-loop-index
invariant-loop-index g l = AreProvablesAfter l.statements l.start l.index l.positions.items
