-- Re-exports names that the specifications of this crate use; they import other names directly.
pub use Rattle.net.specs.declared.event.Event.{Event}
pub use Rattle.net.specs.declared.event.Event.TheVariants.{Begin, Deliver, Offer, Restart}
pub use Rattle.net.specs.declared.fault.StepFault.{StepFault}
pub use Rattle.net.specs.declared.fault.StepFault.TheVariants.{Busy, EventsSpent, LogFull, Memory, NoNode, NoPacket, RoundsSpent, TooLong}
pub use Rattle.std.specs.List.{AllByRecursion}
pub use Rattle.std.specs.Option.{option_map}
pub use Rattle.synod.specs.Ballots.{is_below}
pub use Rattle.synod.specs.Core.{Core}
pub use Rattle.synod.specs.Log.{log_of}
pub use Rattle.synod.specs.Node.{Node, StepResult, kept_of, restarted_node}
pub use Rattle.synod.specs.Packets.{IsPost, to_others}
pub use Rattle.synod.specs.Proposer.{begin_result, offer_result}
pub use Rattle.synod.specs.Ready.{ReadyView}
pub use Rattle.synod.specs.Record.{KeptPart, RecordView, changed_by, new_kept}
pub use Rattle.synod.specs.Capacity.{KeepsCapacity}
pub use Rattle.synod.specs.Step.{on_packet, reloaded, restarted}
pub use Rattle.synod.specs.Weights.{IsWeights, is_quorum}
pub use Rattle.synod.specs.declared.ballot.Ballot.{Ballot}
pub use Rattle.synod.specs.declared.change.Change.{Change}
pub use Rattle.synod.specs.declared.change.Change.TheVariants.{Entry, Promise, Round}
pub use Rattle.synod.specs.declared.packet.Body.TheVariants.{Accept, Ask}
pub use Rattle.synod.specs.declared.packet.Packet.{Packet}
pub use Rattle.synod.specs.declared.refusal.Refusal.{Refusal}
