-- Re-exports names that the specifications of this crate use; they import other names directly.
pub use Rattle.slots.specs.FiniteMap.{SlotsView, entries_to_gap, entry_at, front_of, put_at}
pub use Rattle.slots.specs.declared.slots.TheConstants.{SLOTS}
pub use Rattle.std.specs.Borrow.{Bor}
pub use Rattle.std.specs.List.{AllByRecursion}
pub use Rattle.std.specs.Option.{option_copied}
pub use Rattle.std.specs.declared.alloc.Global.{Global}
pub use Rattle.synod.specs.declared.ballot.Ballot.{Ballot}
pub use Rattle.synod.specs.declared.change.Change.{Change}
pub use Rattle.synod.specs.declared.change.Change.TheVariants.{Entry, Round}
pub use Rattle.synod.specs.declared.change.AcceptedEntry.{AcceptedEntry}
pub use Rattle.synod.specs.declared.packet.Body.{Body}
pub use Rattle.synod.specs.declared.packet.Body.TheVariants.{Accept, Accepted, Ask, Nack, Prepare, Promise, Told}
pub use Rattle.synod.specs.declared.packet.Packet.{Packet}
pub use Rattle.synod.specs.declared.packet.SlotReport.{SlotReport}
pub use Rattle.synod.specs.declared.packet.TheConstants.{MAX_PAGES}
pub use Rattle.synod.specs.declared.proposer.Heard.{Heard}
pub use Rattle.synod.specs.declared.proposer.Role.{Role}
pub use Rattle.synod.specs.declared.proposer.Role.TheVariants.{Idle, Leading, Preparing}
pub use Rattle.synod.specs.declared.proposer.TheConstants.{MAX_WAITING}
pub use Rattle.synod.specs.declared.refusal.Refusal.{Refusal}
pub use Rattle.synod.specs.declared.refusal.Refusal.TheVariants.{Busy, LogFull, Memory, RoundsSpent, TooLong}
pub use Rattle.synod.specs.declared.tally.Tally.{Tally}
pub use Rattle.synod.specs.declared.value.TheConstants.{MAX_VALUE_BYTES}
pub use Rattle.synod.specs.declared.weights.TheConstants.{MAX_NODES, MAX_WEIGHT}
