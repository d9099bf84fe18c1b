-- The names used in the proofs of this crate, with lemmas of std and of the layers below,
-- re-exported from one place.
pub use Rattle.cluster.specs.Cell.{Cell}
pub use Rattle.cluster.specs.Cells.{new_cells}
pub use Rattle.net.specs.KeptPart.{node_of}
pub use Rattle.net.specs.World.{World}
pub use Rattle.net.specs.declared.event.Event.{Event}
pub use Rattle.net.specs.declared.event.Event.TheVariants.{Restart}
pub use Rattle.net.specs.declared.fault.StepFault.{StepFault}
pub use Rattle.nodes.specs.Report.{IsReport, is_event_of_node, event_counts, event_count_of, with_one_more_at}
pub use Rattle.std.proofs.Common.{Bool, Err, List, None, Ok, Result, Some, [], Option, ap, arith, false, get_or, if◌then◌else◌, nat_lt, inl, inr, length, refl, replicate, set, subst, suc, sum, sym, take, true, vec_len, zero, ℕ, ◌*◌, ◌++◌, ◌+◌, ◌<◌, ◌==◌, ◌∙◌, ◌∷◌, ◌≡◌, ◌≤◌}
pub use Rattle.std.proofs.lemmas.Bool.Decides.{nat_tests}
pub use Rattle.std.proofs.lemmas.List.{take_all, take_more}
pub use Rattle.std.proofs.lemmas.List.Folds.{sum_by-replicate}
pub use Rattle.std.specs.Prelude.{IfErr, IsErrAnd, IsOk}
pub use Rattle.std.specs.Result.{ForOk}
pub use Rattle.switch.specs.Switch.{Plays, SwitchView, world_of}
pub use Rattle.world.specs.Carried.{carried_size}
pub use Rattle.world.specs.declared.carried.Carried.{Carried}
