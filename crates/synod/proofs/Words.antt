-- Names that the proofs of this crate use, re-exported from one place. The proofs import all others
-- directly.
pub use Rattle.indexmap.specs.IndexMap.{insert_entry}
pub use Rattle.slots.proofs.FiniteMapLemmas.{front_of-le, top_of-put_at}
pub use Rattle.slots.proofs.Lists.{In}
pub use Rattle.slots.proofs.MapReads.{put_either, put_same}
pub use Rattle.slots.specs.FiniteMap.{SlotsView, entries_to_gap, entry_at, front_of, put_at}
pub use Rattle.slots.specs.declared.slots.TheConstants.{SLOTS}
pub use Rattle.std.proofs.Common.{Bool, Err, List, MatchOption, None, Ok, Option, Result, Some, [], add-one, ap, append-nil, append_assoc, ap₂, arith, drop, drop-cons, drop-drop, drop_of_length-le, eq-or-lt_of_le, eq-zero-or-pos, eqb-true, false, get_or, if◌then◌else◌, inl, inr, is_some, le_of_suc-le-suc, length, length-append, length-drop, length-set, length-take, length-take-le, ltb-false, ltb-true, map, max, min, nat_lt, not, refl, replicate, set, slice_index_or, subst, suc, sym, take, true, zero, ℕ, ◌&&◌, ◌*◌, ◌++◌, ◌+◌, ◌-◌, ◌<◌, ◌==◌, ◌^◌, ◌∙◌, ◌∷◌, ◌≡◌, ◌≢◌, ◌≤◌, ◌⊎◌}
pub use Rattle.std.proofs.lemmas.Bool.{cases_Bool, cases_eq, lt-ltb}
pub use Rattle.std.proofs.lemmas.Bool.Decides.{nat_tests}
pub use Rattle.std.proofs.lemmas.Grind.{common_steps}
pub use Rattle.std.proofs.lemmas.List.{get_or-map, get_or-set_other, get_or-set_same, get_or_default, get_or_past, length-map, map-append, map-set, set-get_or, set_past, take_all, take_more}
pub use Rattle.std.proofs.lemmas.Option.{slice_get_past}
pub use Rattle.std.specs.Borrow.{Bor}
pub use Rattle.std.specs.List.{All, AllByRecursion, slice_get}
pub use Rattle.std.specs.Map.{lookup}
pub use Rattle.std.specs.Option.{option_copied, option_map}
pub use Rattle.std.specs.Result.{IfOk, IsOk, OnOk}
pub use Rattle.std.specs.declared.alloc.AllocError.{AllocError}
pub use Rattle.synod.specs.Acceptor.{accepted_entry, on_accept, on_prepare, promise_posts_from, promises, sends_nack, reports_from, accepts_value}
pub use Rattle.synod.specs.Ballots.{is_same, is_below, zero_ballot}
pub use Rattle.synod.specs.Broadcast.{body_of, broadcast_posts, is_ask, to_node, to_nodes_from}
pub use Rattle.synod.specs.Core.{Core, OtherTalliesView, LearnerState, LearnerView, ProposerState, ProposerView, assembled, core_of, learner_state, proposer_state}
pub use Rattle.synod.specs.HighestReports.{IsHighestTable, IsLead, reports_of_pages, as_entries}
pub use Rattle.synod.specs.Learner.{asks_below, asks_for, learns_chosen, counted, counted_in, has_voter, is_voter, learns, no_voters, on_accepted, on_accepted_at, on_ask, on_ask_at, on_told, on_told_at, tallies_at, voted_in, with_voter}
pub use Rattle.synod.specs.Log.{log_length, log_of}
pub use Rattle.synod.specs.Node.{Node, StepResult, volatile_step, is_heard, kept_of, new_node, no_pages, page_of, pages_from, unchanged, with_page}
pub use Rattle.synod.specs.Packets.{IsBody, IsPacket, IsPage, IsPost, IsReport, accept_posts, packet, to_all, to_all_from, to_others, to_others_from}
pub use Rattle.synod.specs.PromisePages.{are_received, cut_after, joined_pages, onto_first, pages_of}
pub use Rattle.synod.specs.Proposer.{top_or_zero, all_reports, begins, begin_result, proposed_values, on_promise_page, on_complete_promise, higher, highest_at, idles, is_at, adds_page, completes_promise, leads, leads_with, next_ballot, next_round, offer_as, offer_waits, offer_result, on_nack, on_promise, on_promise_as, reported_value, proposes_value, top_or_first, waits}
pub use Rattle.synod.specs.Ready.{CanCommit, IsReadyFor, ReadyView, IsStagingResult, learner_of, proposer_of, staged_node, with_learner_update, with_proposer_update}
pub use Rattle.synod.specs.Record.{HasCapacityFor, KeptPart, RecordView, changed_by}
pub use Rattle.synod.specs.Capacity.{KeepsCapacity, KeepsCapacities}
pub use Rattle.synod.specs.Step.{IsReceivedPage, IsNode, IsRole, PreservesInvariant, on_body, on_packet, reloaded, restarted}
pub use Rattle.synod.specs.Stored.OtherTallies.{IsLearner, other_tallies_at, tallies_from, tally, voters_among}
pub use Rattle.synod.specs.Stored.ReceivedPages.{entries_of, pages_after_delivery, put_page, capacities_of}
pub use Rattle.synod.specs.Updates.{CanCount, CanUpdateLearner, CanUpdateProposer}
pub use Rattle.synod.specs.Weights.{is_quorum, weigh}
pub use Rattle.synod.specs.declared.ballot.Ballot.{Ballot}
pub use Rattle.synod.specs.declared.change.Change.{Change}
pub use Rattle.synod.specs.declared.change.Change.TheVariants.{Entry, Round}
pub use Rattle.synod.specs.declared.change.AcceptedEntry.{AcceptedEntry}
pub use Rattle.synod.specs.declared.learner.LearnerUpdate.{LearnerUpdate}
pub use Rattle.synod.specs.declared.learner.LearnerUpdate.TheVariants.{CountAndLearn, Count, Learn}
pub use Rattle.synod.specs.declared.packet.Body.{Body}
pub use Rattle.synod.specs.declared.packet.Body.TheVariants.{Accept, Accepted, Ask, Nack, Prepare, Promise, Told}
pub use Rattle.synod.specs.declared.packet.Packet.{Packet}
pub use Rattle.synod.specs.declared.packet.SlotReport.{SlotReport}
pub use Rattle.synod.specs.declared.packet.TheConstants.{MAX_PAGES}
pub use Rattle.synod.specs.declared.proposer.Heard.{Heard}
pub use Rattle.synod.specs.declared.proposer.ProposerUpdate.{ProposerUpdate}
pub use Rattle.synod.specs.declared.proposer.ProposerUpdate.TheVariants.{Begin, CompletePromise, AddHeard, Lead, AddPage, Propose, AddWaiting}
pub use Rattle.synod.specs.declared.proposer.Role.{Role}
pub use Rattle.synod.specs.declared.proposer.Role.TheVariants.{Idle, Leading, Preparing}
pub use Rattle.synod.specs.declared.proposer.TheConstants.{MAX_WAITING}
pub use Rattle.synod.specs.declared.ready.StagedUpdates.{StagedUpdates}
pub use Rattle.synod.specs.declared.refusal.Refusal.{Refusal}
pub use Rattle.synod.specs.declared.refusal.Refusal.TheVariants.{Busy, LogFull, Memory, RoundsSpent, TooLong}
pub use Rattle.synod.specs.declared.tally.Tally.{Tally}
pub use Rattle.synod.specs.declared.value.TheConstants.{MAX_VALUE_BYTES}
