-- The names used in the proofs of this crate, with lemmas of std and of the layers below,
-- re-exported from one place.
pub use Rattle.net.proofs.Beginnings.{then_begins}
pub use Rattle.net.proofs.EventsStaged.{comes_restart, staged_still, nodes_found, nodes_still}
pub use Rattle.net.proofs.EveryEvent.{IfTaken, if_taken, spent_or}
pub use Rattle.net.proofs.GrowingLists.{at_set, at_set_other, set_twice}
pub use Rattle.net.proofs.AgreementLemmas.{taken_front}
pub use Rattle.net.proofs.KeptPartLemmas.{Happens, event_moves}
pub use Rattle.net.proofs.LogsGrow.{log_grows}
pub use Rattle.net.proofs.OwnNumbers.{IsOwn, own_after}
pub use Rattle.net.proofs.ResumedLemmas.{idle_push, kept_parts-read}
pub use Rattle.net.proofs.StagedTaken.{posts_same}
pub use Rattle.net.proofs.StepsStaged.{still_more}
pub use Rattle.net.proofs.HistoryLemmas.{after-push, count_shown, event_result-not_spent, length-nodes_of, makes, next_is, nodes_of-set, rooms_stay, same_limit, set_same, taken_count}
pub use Rattle.net.proofs.TwoMoments.{events_result-append}
pub use Rattle.net.specs.Agree.{IsPrefixOf}
pub use Rattle.net.specs.KeptPart.{node_of_event, change_of, kept_part, node_of}
pub use Rattle.net.specs.Staged.{EachChangesOnlyCapacity, HasResult, HasSpareCapacity, IsEventAt, IsOfEvent, IsReadyAt, IsStaged, ChangesOnlyCapacity, IsTaken, NetView, StagedEvent, StagedWork, change_in, with_loaded, posts_of, restarts, step_of, steps, with_record}
pub use Rattle.net.specs.History.{AreOfWorld, History, first_world, kept_parts_of, new_history, nodes_of, with_event, world_of as world_of_taken}
pub use Rattle.net.specs.Resumed.{IsIdle}
pub use Rattle.net.specs.World.{World, events_result, resumed, at_node, delivered, event_result, event_result_without_limit, log, log_after, new_parts, nodes_with, packets_after, start, after_step}
pub use Rattle.net.specs.declared.event.Event.{Event}
pub use Rattle.net.specs.declared.event.Event.TheVariants.{Begin, Deliver, Offer, Restart}
pub use Rattle.net.specs.declared.fault.StepFault.{StepFault}
pub use Rattle.net.specs.declared.fault.StepFault.TheVariants.{Device, Down, EventsSpent, Memory}
pub use Rattle.slots.specs.FiniteMap.{put_at}
pub use Rattle.std.proofs.Common.{Bool, Err, List, None, Ok, Option, Result, Some, [], ap, append-nil, append_assoc, arith, false, get_or, inl, inr, le_of_suc-le-suc, length, length-append, nat_lt, refl, set, slice_get, subst, suc, sym, take, true, zero, ℕ, ◌++◌, ◌+◌, ◌<◌, ◌==◌, ◌∙◌, ◌∷◌, ◌≡◌, ◌≢◌, ◌≤◌}
pub use Rattle.std.proofs.lemmas.Bool.Decides.{nat_tests}
pub use Rattle.std.proofs.lemmas.List.{length-map, length-set, map-append, nil_from_length, take_all, take_more}
pub use Rattle.std.proofs.lemmas.Option.{slice_get_past, slice_get_read, slice_get_within}
pub use Rattle.std.specs.List.{AllByRecursion}
pub use Rattle.std.specs.Option.{option_map}
pub use Rattle.std.specs.Prelude.{IfErr, IsErrAnd, IsOkUnless, IsSome, OnErr, OnOk, ◌⊎◌}
pub use Rattle.std.specs.Result.{ForOk}
pub use Rattle.std.specs.Vec.Iter.{into_iter_items}
pub use Rattle.switch.specs.LogPrefixes.{IsLogPrefix, EventKeepsPrefixes, KeepsPrefixes}
pub use Rattle.switch.specs.NodeStore.{EndsGroup, Fails, IsRecordOf, ended, IsWithOrWithout, Status, StoreState, pending_change, down, pending_of, pending_posts, unloaded, up}
pub use Rattle.switch.specs.Switch.{DeliversInTurn, DeliversOrLeaves, EndsGroupAt, with_group, with_group_of, IsAfter, IsEffect, AreResumedStores, IsResumed, IsResumedStore, IsLoadedAgain, IsReloadOutcome, StaysUnloaded, Refuses, UnloadedAreIdle, history_of, is_unloaded, is_unloaded_at, is_unloaded_view, IsEffectAtDownNode, IsEffectUnlessDown, AreStores, CanCommitPending, FailsAt, IsPendingStaged, IsRecordIn, StoreFitsNode, IsSwitch, ViewFitsNode, Plays, IsEffectOfRecovery, IsRecoveryOutcome, StoreView, SwitchView, IsOutcomeAt, CommitsPending, change_of_pending, pending_on_failure, pending_event, pending_events, is_down, is_down_at, is_down_view, new_stores, new_views, status_view, view_of, views_of, with_store, world_of}
pub use Rattle.synod.proofs.NodeInvariant.{all_append}
pub use Rattle.synod.specs.Core.{Core}
pub use Rattle.synod.specs.Node.{Node, StepResult, kept_of, restarted_node}
pub use Rattle.synod.specs.Packets.{IsPost, to_others}
pub use Rattle.synod.specs.Proposer.{begin_result, offer_result}
pub use Rattle.synod.specs.Record.{KeptPart, changed_by, new_kept}
pub use Rattle.synod.specs.Step.{on_packet, reloaded, restarted}
pub use Rattle.synod.specs.declared.change.Change.{Change}
pub use Rattle.synod.specs.declared.change.Change.TheVariants.{Entry, Promise, Round}
pub use Rattle.synod.specs.declared.change.AcceptedEntry.{AcceptedEntry}
pub use Rattle.synod.specs.declared.packet.Body.TheVariants.{Ask}
pub use Rattle.synod.specs.declared.packet.Packet.{Packet}
pub use Rattle.synod.specs.declared.refusal.Refusal.{Refusal}
