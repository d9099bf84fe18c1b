-- Re-exports of the definitions and lemmas with which this crate is proved.
pub use Rattle.library.specs.declared.entry.Entry.{Entry}
pub use Rattle.library.specs.declared.verdict.Verdict.{Verdict}
pub use Rattle.net.specs.History.{History, with_event, world_of}
pub use Rattle.net.specs.World.{events_result, packets_after}
pub use Rattle.net.specs.declared.event.Event.{Event}
pub use Rattle.net.specs.declared.event.Event.TheVariants.{Begin, Deliver, Offer, Restart}
pub use Rattle.net.specs.declared.fault.StepFault.{StepFault}
pub use Rattle.net.specs.declared.fault.StepFault.TheVariants.{NoNode}
pub use Rattle.run_pictures.specs.StepStart.{ended_of}
pub use Rattle.run_pictures.specs.Labels.{end_of_numbers, printable}
pub use Rattle.run_pictures.specs.Picture.{node_elements, stump_line, stump_numbers}
pub use Rattle.run_pictures.specs.Posts.{Packets, number_to, posts, stump, stumps_from, stumps_of, title_to}
pub use Rattle.run_pictures.specs.RunView.{AppliesOrNot, IsRecorded, RecordsApplication, RecordsEvent, RecordsNext, RunView, packets_of}
pub use Rattle.run_pictures.specs.Steps.{WorldOrFault, act_of, application_of, step_start_of, is_event, is_event_act, learned_by, learned_of, node_of_step, step_of, steps_from, steps_of, after_one_more}
pub use Rattle.run_pictures.specs.declared.step.Step.{Step}
pub use Rattle.run_pictures.specs.declared.step.StepStart.{StepStart}
pub use Rattle.run_pictures.specs.declared.stumps.Stump.{Stump}
pub use Rattle.std.proofs.Common.{ap, append-nil, append_assoc, arith, drop, inl, inr, map, subst, sym, take, ◌++◌, ◌-◌, ◌∙◌}
pub use Rattle.std.proofs.lemmas.Bool.{cases_lt}
pub use Rattle.std.proofs.lemmas.List.Elements.{filter-append}
pub use Rattle.std.specs.List.{position_from}
pub use Rattle.std.specs.Prelude.{Err, IfOk, IfSome, IsSomeAnd, List, None, Ok, OnErr, Option, Result, Some, [], false, filter, flat_map, length, slice_get, refl, suc, true, zero, ℕ, ◌+◌, ◌<◌, ◌∷◌, ◌≡◌, ◌≤◌}
pub use Rattle.world.specs.Carried.{value_event, carried_size}
pub use Rattle.world.specs.WorldView.{IsApplied, NodeLibrary, WorldView, after_event, new_world, next_entry}
pub use Rattle.world.specs.declared.carried.Carried.{Carried}
