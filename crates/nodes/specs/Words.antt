-- Most of the definitions of the layers below that this crate's definitions use, re-exported.
pub use Rattle.cluster.specs.Belongs.{Belongs, IsAhead}
pub use Rattle.cluster.specs.Cell.{Cell, IsCell, work_limit_of}
pub use Rattle.cluster.specs.declared.compare.Ahead.{Ahead}
pub use Rattle.library.specs.LibraryOf.{status}
pub use Rattle.library.specs.Listed.{listed}
pub use Rattle.library.specs.declared.listed.Listed.{Listed}
pub use Rattle.library.specs.declared.verdict.Verdict.{Verdict}
pub use Rattle.net.specs.Agree.{IsPrefixOf}
pub use Rattle.net.specs.Agreement.{IsMoment}
pub use Rattle.net.specs.KeptPart.{node_of}
pub use Rattle.net.specs.Resumed.{RunBefore}
pub use Rattle.net.specs.World.{World, log, log_after, log_entry}
pub use Rattle.net.specs.declared.event.Event.{Event}
pub use Rattle.net.specs.declared.event.Event.TheVariants.{Deliver, Restart}
pub use Rattle.net.specs.declared.fault.StepFault.{StepFault}
pub use Rattle.net.specs.declared.fault.StepFault.TheVariants.{Apart, Stopped}
pub use Rattle.switch.specs.Switch.{DeliversTogether, Plays, SwitchView, UnloadedAreIdle, history_of, world_of}
pub use Rattle.world.specs.Carried.{carried_size}
pub use Rattle.world.specs.declared.carried.Carried.{Carried}
