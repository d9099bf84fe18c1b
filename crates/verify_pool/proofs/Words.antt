-- Re-exports of the definitions and lemmas with which this crate is proved.
pub use Rattle.mm_read.specs.Statements.{Database}
pub use Rattle.std.proofs.Common.{Bool, Err, IfOk, IfSome, IsTrue, List, None, Ok, Option, Result, Some, [], add-one, ap, arith, below_more, false, get_or, inl, inr, length, mod-lt, refl, slice_get, slice_index_or, subst, suc, suc-mul, sym, true, zero, ℕ, ◌%◌, ◌*◌, ◌++◌, ◌+◌, ◌-◌, ◌/◌, ◌<◌, ◌∙◌, ◌∷◌, ◌≡◌, ◌≤◌, ◌⊎◌}
pub use Rattle.std.proofs.lemmas.Bool.{cases_lt, cases_order}
pub use Rattle.std.proofs.lemmas.Option.{none-some, same_Some, slice_get_read, slice_get_within}
pub use Rattle.verify.specs.Metered.{Metered, is_over, is_past, with_work}
pub use Rattle.verify.specs.Right.{IsAnswerTo}
pub use Rattle.verify_pool.specs.FirstStop.{IsFirstStop, IsFirstTooCostly, IsFirstWrong, IsRightTo, metered_to, work_to}
pub use Rattle.verify_pool.specs.Jobs.{AreJobs, IsBefore, IsWrongJobAt, IsJob, IsRightAt, IsRightJob, IsFirstWrongJob}
pub use Rattle.verify_pool.specs.Laws.{OneAnswer, OneStop}
pub use Rattle.verify_pool.specs.Stripes.{AreFound, AreFoundIn, IsFound, IsSettled}
pub use Rattle.verify_pool.specs.declared.checkers.Found.{Found}
pub use Rattle.verify_pool.specs.declared.checkers.Found.TheVariants as a_found
pub use Rattle.verify_pool.specs.declared.job.Job.{Job}
pub use Rattle.verify_pool.specs.declared.outcome.Outcome.{Outcome}
pub use Rattle.verify_pool.specs.declared.outcome.Outcome.TheVariants.{AllRight, TooCostly, Wrong}
