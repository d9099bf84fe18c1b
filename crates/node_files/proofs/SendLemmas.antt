-- The keep of a node may be sent to another thread: of SQLite's store over a file, what contracts
-- alone see of the file's calls owns nothing; the rest is sent by its parts.
use denote.RattleType.{RattleType}
use denote.Param.Send.{IsSend, owning_send, sendable}
use Rattle.std.proofs.Crossing.{crosses}
use Rattle.synod.specs.declared.value.Value as value
use Rattle.file_keep.specs.declared.value_columns.ValueColumns as columns
use Rattle.sqlite_std_file.specs.contracts.record.Record as Record
use Rattle.sqlite_std_file.specs.contracts.host.Host as Host
use Rattle.sqlite_disk.proofs.modelled.Modelled.TheSendSync as modelled
use Rattle.sqlite_store.proofs.store.FileStore.TheSendSync as store
use Rattle.file_keep.proofs.node_keep.NodeKeep.TheSendSync as keep
use Rattle.node_files.proofs.seen.Seen.TheSendSync as seen
use Rattle.node_files.proofs.node_file.NodeFile.TheSendSync as node_file
use Rattle.node_files.specs.contracts.node_file.FileNodeKeep as Node

record_send : IsSend Record.the_row
record_send = owning_send Record.the_type (search sendable, tt) (λ d. tt) (λ k x w. tt)

host_send : IsSend Host.the_row
host_send = search (sendable, crosses, record_send) depth 60

pub keep_send : (V C : RattleType) (g : value.Ghosts V.Denot) (h : columns.Ghosts C.Denot V.Denot) → IsSend V → IsSend C → IsSend (Node.the_row V C g h)
keep_send V C g h v c = search (sendable, crosses, host_send, modelled.the_send, store.the_send, keep.the_send, seen.the_send, node_file.the_send) depth 60
