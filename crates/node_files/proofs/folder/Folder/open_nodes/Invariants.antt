use Rattle.std.proofs.Common.{◌≡◌, vec_len}
use Rattle.std.specs.Prelude.{All, is_some}
use Rattle.sqlite_store.specs.FileStore.{recovers, view}
use Rattle.node_files.specs.Opened.{IsOpened}
use Rattle.node_files.proofs.folder.Folder.open_nodes.Given as goal

-- a keep for each node so far
abbrev pub invariant-loop-k : goal.invariant-loop-k
invariant-loop-k g l =
    (vec_len l.nodes ≡ l.k)
    × All (λ node. IsOpened view recovers g.C.ValueColumns.columns (is_some node.damage) node.keep.keep) l.nodes.items
