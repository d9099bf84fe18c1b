-- The names of `net` and `synod` that the specifications of this crate use, re-exported from one
-- module.
pub use Rattle.net.specs.Agree.{IsPrefixOf}
pub use Rattle.net.specs.Staged.{StagedEvent, HasSpareCapacity, IsStaged, IsTaken, NetView, change_in, posts_of}
pub use Rattle.net.specs.KeptPart.{change_of, kept_part, node_of}
pub use Rattle.net.specs.History.{AreOfWorld, History, first_world, world_of as world_of_taken}
pub use Rattle.net.specs.Resumed.{IsIdle}
pub use Rattle.net.specs.World.{World, event_result, events_result, log_after, packets_after}
pub use Rattle.net.specs.declared.event.Event.{Event}
pub use Rattle.net.specs.declared.event.Event.TheVariants.{Begin, Deliver, Offer, Restart}
pub use Rattle.net.specs.declared.fault.StepFault.{StepFault}
pub use Rattle.net.specs.declared.fault.StepFault.TheVariants.{Device, Down, EventsSpent, Memory, NoPacket}
pub use Rattle.synod.specs.Node.{Node, kept_of}
pub use Rattle.synod.specs.Record.{KeptPart, changed_by, new_kept}
pub use Rattle.synod.specs.declared.change.Change.{Change}
pub use Rattle.synod.specs.declared.packet.Packet.{Packet}
