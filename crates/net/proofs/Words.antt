-- The names used in the proofs of this crate, re-exported from one place.
pub use Rattle.net.specs.Agree.{Agree, ChosenAgree, IsAfter, IsPrefixOf, IsProposed, LogsAgree}
pub use Rattle.net.specs.Chosen.{IsChosen, IsChosenAt, Vote, vote}
pub use Rattle.net.specs.Agreement.{Agreement, IsMetOrMemory, IsMoment, RunStopsAt}
pub use Rattle.net.specs.KeptPart.{AreOfOthers, node_of_event, change_of_result, change_at, change_delivered, change_of, kept_part, node_of}
pub use Rattle.net.specs.Laws.{BallotsHaveOneValue, ChosenValuesAgree, KeptPartSurvives, ChosenValuesPersist, LogEntriesAreChosen, LogEntriesWereOffered, LogsOfNodesAgree, LogsOnlyGrow, RestartEmptiesLog}
pub use Rattle.net.specs.Staged.{EachChangesOnlyCapacity, HasResult, IsStagingResultInNet, IsOfEvent, IsReadyAt, IsStaged, IsStagedAt, ChangesOnlyCapacity, IsTaken, NetView, IsStagingResultAt, IsStagingResultOfEvent, StagedEvent, StagedWork, posts_of, restarts, step_of, steps, work_of}
pub use Rattle.net.specs.History.{AreOfWorld, BeginsNew, History, first_world, new_history, nodes_of, parts_of, with_event, world_of}
pub use Rattle.net.specs.World.{World, after, events_result, after_step_or_fault, at_node, delivered, event_result, event_result_without_limit, log, log_after, log_at, new_parts, nodes_with, offers_of, resumed, packets_after, start, after_step, votes_after}
pub use Rattle.net.specs.declared.event.Event.{Event}
pub use Rattle.net.specs.declared.event.Event.TheVariants.{Begin, Deliver, Offer, Restart}
pub use Rattle.net.specs.declared.fault.StepFault.{StepFault}
pub use Rattle.net.specs.declared.fault.StepFault.TheVariants.{EventsSpent, Memory, NoNode, NoPacket}
pub use Rattle.slots.proofs.Lists.{Contains-in, In, In-append, In-append_left, In-append_right, In-contains}
pub use Rattle.slots.proofs.MapReads.{before_gap, put_either, put_same}
pub use Rattle.slots.specs.FiniteMap.{entries_to_gap, entry_at, front_of, put_at}
pub use Rattle.slots.specs.declared.slots.TheConstants.{SLOTS}
pub use Rattle.std.proofs.Common.{Bool, Err, List, MatchOption, None, Ok, Option, Result, Some, [], add-one, ap, append-nil, append_assoc, arith, drop, eqb-true, false, get_or, if◌then◌else◌, inl, inr, le_of_suc-le-suc, length, length-append, map, nat_lt, not, refl, set, slice_get, subst, suc, sym, take, true, zero, ℕ, ◌&&◌, ◌++◌, ◌+◌, ◌-◌, ◌<◌, ◌==◌, ◌^◌, ◌||◌, ◌∙◌, ◌∷◌, ◌≡◌, ◌≢◌, ◌≤◌, ◌⊎◌}
pub use Rattle.std.proofs.Math.Seq.{take-append_seam}
pub use Rattle.std.proofs.lemmas.Bool.{and_parts, not-true}
pub use Rattle.std.proofs.lemmas.Bool.Decides.{nat_tests}
pub use Rattle.std.proofs.lemmas.List.{length-map, length-set, map-append, take_more}
pub use Rattle.std.proofs.lemmas.Option.{slice_get-map, slice_get_read, slice_get_within}
pub use Rattle.std.specs.Borrow.{Bor}
pub use Rattle.std.specs.Iterator.{Yields}
pub use Rattle.std.specs.List.{AllByRecursion}
pub use Rattle.std.specs.Option.{option_map}
pub use Rattle.std.specs.Prelude.{IfErr, IfOk, IsOk, OnOk, is_ok}
pub use Rattle.std.specs.Vec.Iter.{into_iter_items, into_iter_steps}
pub use Rattle.std.specs.declared.alloc.AllocError.{AllocError}
pub use Rattle.std.specs.declared.vec.IntoIter.{IntoIter}
pub use Rattle.synod.proofs.BallotsLemmas.{Under, Upto, not_both, same_true, total, under_false, under_is_upto, under_true, upto_self, upto_splits, upto_under, upto_upto}
pub use Rattle.synod.proofs.KeptPartLemmas.{ChangesKeptOnOk, begun_kept, body_kept, offered_kept, restarted_kept}
pub use Rattle.synod.proofs.KnownVoteLemmas.{counted_either, other_pages, page_either}
pub use Rattle.synod.proofs.NodeInvariant.{all_append}
pub use Rattle.synod.proofs.PageInvariant.{length-proposed_values}
pub use Rattle.synod.proofs.PromisePages.{are_received-front, joined-all, pages-all}
pub use Rattle.synod.proofs.QuorumLemmas.{quorums_meet}
pub use Rattle.synod.proofs.ReportsLemmas.{HighestHolds, IsHighest, below_top, first_to_top, held-reported, highest_holds, reports-held}
pub use Rattle.synod.proofs.RoomLemmas.{same_room}
pub use Rattle.synod.specs.Acceptor.{accepted_entry, on_accept, on_prepare, promise_posts_from, promises, sends_nack, reports_from, accepts_value}
pub use Rattle.synod.specs.Ballots.{is_same, is_below}
pub use Rattle.synod.specs.Core.{Core}
pub use Rattle.synod.specs.Learner.{learns_chosen, counted, has_voter, learns, on_accepted, on_accepted_at, on_ask, on_ask_at, on_told, on_told_at}
pub use Rattle.synod.specs.Log.{log_length, log_of}
pub use Rattle.synod.specs.Node.{Node, StepResult, is_heard, kept_of, no_pages, page_of, pages_from, restarted_node, unchanged, with_page}
pub use Rattle.synod.specs.Packets.{IsPost, accept_posts, packet, to_all, to_all_from, to_others, to_others_from}
pub use Rattle.synod.specs.PromisePages.{are_received, joined_pages, pages_of}
pub use Rattle.synod.specs.Proposer.{all_reports, begins, begin_result, proposed_values, on_promise_page, on_complete_promise, highest_at, idles, is_at, adds_page, completes_promise, leads, next_ballot, next_round, offer_as, offer_waits, offer_result, on_nack, on_promise, on_promise_as, reported_value, proposes_value, top_or_first, waits}
pub use Rattle.synod.specs.Ready.{ReadyView}
pub use Rattle.synod.specs.Record.{KeptPart, RecordView, changed_by}
pub use Rattle.synod.specs.Capacity.{KeepsCapacity}
pub use Rattle.synod.specs.Step.{on_body, on_packet, reloaded, restarted}
pub use Rattle.synod.specs.Weights.{IsWeights, is_quorum}
pub use Rattle.synod.specs.declared.ballot.Ballot.{Ballot}
pub use Rattle.synod.specs.declared.change.Change.{Change}
pub use Rattle.synod.specs.declared.change.Change.TheVariants.{Entry, Round}
pub use Rattle.synod.specs.declared.change.AcceptedEntry.{AcceptedEntry}
pub use Rattle.synod.specs.declared.packet.Body.{Body}
pub use Rattle.synod.specs.declared.packet.Body.TheVariants.{Accept, Accepted, Ask, Nack, Prepare, Promise, Told}
pub use Rattle.synod.specs.declared.packet.Packet.{Packet}
pub use Rattle.synod.specs.declared.packet.SlotReport.{SlotReport}
pub use Rattle.synod.specs.declared.proposer.Heard.{Heard}
pub use Rattle.synod.specs.declared.proposer.Role.{Role}
pub use Rattle.synod.specs.declared.proposer.Role.TheVariants.{Idle, Leading, Preparing}
pub use Rattle.synod.specs.declared.proposer.TheConstants.{MAX_WAITING}
pub use Rattle.synod.specs.declared.refusal.Refusal.{Refusal}
pub use Rattle.synod.specs.declared.refusal.Refusal.TheVariants.{Busy, LogFull, RoundsSpent, TooLong}
pub use Rattle.synod.specs.declared.tally.Tally.{Tally}
pub use Rattle.synod.specs.declared.value.TheConstants.{MAX_VALUE_BYTES}
