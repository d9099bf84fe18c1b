-- The names used in the proofs of this crate, with lemmas of std and of the layers below,
-- re-exported from one place.
pub use Rattle.cluster.specs.Belongs.{Belongs, EachBelongs, IsAhead}
pub use Rattle.cluster.specs.Cell.{AddsEntry, Cell, IsCell, TakesOver, new_cell, next_entry, work_limit_of}
pub use Rattle.cluster.specs.Cells.{new_cells}
pub use Rattle.cluster.specs.Outcome.{first_with_key}
pub use Rattle.library.specs.LibraryOf.{ReplicaState}
pub use Rattle.library.specs.declared.entry.Entry.{Entry}
pub use Rattle.library.specs.declared.verdict.Verdict.{Verdict}
pub use Rattle.mm_read.specs.Statements.{Database}
pub use Rattle.net.specs.Agree.{Agree, IsPrefixOf}
pub use Rattle.net.specs.Agreement.{IsMoment}
pub use Rattle.net.proofs.ResumedLemmas.{goes_on}
pub use Rattle.net.specs.History.{History}
pub use Rattle.net.specs.Resumed.{RunBefore, GoesOn}
pub use Rattle.net.specs.World.{World, log, log_after}
pub use Rattle.net.specs.declared.fault.StepFault.{StepFault}
pub use Rattle.net.specs.declared.fault.StepFault.TheVariants.{NoNode}
pub use Rattle.slots.specs.FiniteMap.{entry_at, put_at, with_head, trimmed}
pub use Rattle.slots.specs.declared.slots.TheConstants.{SLOTS}
pub use Rattle.std.proofs.Common.{Bool, Err, List, None, Ok, Option, Result, Some, [], add-one, ap, append-nil, append_assoc, arith, drop, false, inl, inr, le_of_suc-le-suc, length, length-append, nat_lt, refl, slice_get, subst, suc, sym, take, true, zero, ℕ, ◌++◌, ◌+◌, ◌<◌, ◌∙◌, ◌∷◌, ◌≡◌, ◌≤◌}
pub use Rattle.std.proofs.lemmas.Bool.Decides.{nat_tests}
pub use Rattle.std.specs.Borrow.{Bor}
pub use Rattle.std.specs.Prelude.{IsOk, IsSome, MatchOption, is_err, option_map}
pub use Rattle.switch.specs.LogPrefixes.{IsLogPrefix}
pub use Rattle.switch.specs.Switch.{StoreView, history_of, IsResumed, AreResumedStores, SwitchView, new_views, world_of}
pub use Rattle.synod.specs.Record.{KeptPart, changed_by}
pub use Rattle.synod.specs.declared.change.Change.{Change}
pub use Rattle.synod.specs.declared.change.Change.TheVariants.{Promise, Round}
pub use Rattle.synod.specs.declared.change.AcceptedEntry.{AcceptedEntry}
pub use Rattle.world.proofs.EntryLogs.{entries_begin, entries_of-get, entries_of-none}
pub use Rattle.world.proofs.HeadlineLemmas.{libraries_of_logs_agree}
pub use Rattle.world.proofs.WorldViewLemmas.{limit-applied, of_log_applied, of_longer}
pub use Rattle.world.specs.Carried.{carried_size, entries_of, entry_of}
pub use Rattle.world.specs.WorldView.{AppliesNext, IsOfLog, NodeLibrary}
pub use Rattle.world.specs.declared.carried.Carried.{Carried}
