-- The names used in the proofs of this crate, with lemmas of std and of the layers below,
-- re-exported from one place.
pub use Rattle.library.proofs.LibraryLemmas.{library-begins, library-good, library-more}
pub use Rattle.library.specs.Good.{Good}
pub use Rattle.library.specs.LibraryOf.{Applies, AppliesAt, Decides, IsLibraryOf, ReplicaState, status_of}
pub use Rattle.library.specs.declared.entry.Entry.{Entry}
pub use Rattle.library.specs.declared.entry.Entry.TheVariants.{Charter, Text}
pub use Rattle.library.specs.declared.verdict.Verdict.{Verdict}
pub use Rattle.library.specs.declared.verdict.Verdict.TheVariants.{Added, Nothing, Refused, Repeat}
pub use Rattle.mm_read.specs.Statements.{Database}
pub use Rattle.mm_read.specs.declared.stmt.Stmt.{Stmt}
pub use Rattle.net.proofs.Beginnings.{beginnings_agree, then_begins}
pub use Rattle.net.proofs.EveryEvent.{if_taken}
pub use Rattle.net.proofs.GrowingLists.{at_set_other}
pub use Rattle.net.proofs.AgreementLemmas.{agreement_of, stops_there, taken_front}
pub use Rattle.net.proofs.LogsGrow.{log_grows}
pub use Rattle.net.proofs.ResumedLemmas.{goes_on}
pub use Rattle.net.proofs.HistoryLemmas.{after-push, set_same}
pub use Rattle.net.proofs.TwoMoments.{events_result-append}
pub use Rattle.net.specs.Agree.{Agree, IsPrefixOf}
pub use Rattle.net.specs.Agreement.{Agreement}
pub use Rattle.net.specs.History.{BeginsNew, History, first_world, new_history, with_event, world_of}
pub use Rattle.net.specs.Resumed.{GoesOn, RunBefore}
pub use Rattle.net.specs.World.{World, events_result, event_result, log, log_after}
pub use Rattle.net.specs.declared.event.Event.{Event}
pub use Rattle.net.specs.declared.event.Event.TheVariants.{Begin, Deliver, Offer, Restart}
pub use Rattle.net.specs.declared.fault.StepFault.{StepFault}
pub use Rattle.std.proofs.Common.{Bool, Err, List, None, Ok, Option, Result, Some, [], add-one, ap, append_assoc, arith, false, inl, inr, length, length-append, refl, replicate, set, slice_get, subst, suc, sym, take, true, zero, ℕ, ◌++◌, ◌+◌, ◌==◌, ◌∙◌, ◌∷◌, ◌≡◌, ◌≢◌}
pub use Rattle.std.proofs.iter.Next.{Yields-more}
pub use Rattle.std.proofs.lemmas.Bool.Decides.{nat_tests}
pub use Rattle.std.proofs.lemmas.List.{append-nil, length-replicate, length-set, nil_from_length, take-append-le}
pub use Rattle.std.proofs.lemmas.Option.{slice_get_read, slice_get_within}
pub use Rattle.std.specs.Borrow.{Bor}
pub use Rattle.std.specs.Prelude.{IfErr, IfOk, IfSome, IsOk, IsSomeAnd, MatchOption, option_map}
pub use Rattle.std.specs.Vec.Iter.{into_iter_items, into_iter_steps}
pub use Rattle.synod.proofs.LogLemmas.{take_next}
pub use Rattle.verify.specs.Right.{IsProvable}
pub use Rattle.world.specs.Carried.{value_events, value_event, carried_size, entries_of, entry_of}
pub use Rattle.world.specs.Headline.{HasDerivation, Headline, HeadlineGoesOn, HeadlineHolds, HeadlinesGoOn}
pub use Rattle.world.specs.WorldView.{AppliesNext, AreLibrariesOfLogs, IsApplied, IsOfLog, NodeLibrary, WorldView, with_library_reset, log_entries, new_node_libraries, new_node_library, next_entry, next_of, node_restarted, after_event}
pub use Rattle.world.specs.declared.carried.Carried.{Carried}
