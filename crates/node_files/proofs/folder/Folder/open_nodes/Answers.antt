-- One more node, whose keep is open or that of a damaged node.
use Rattle.std.proofs.Common.{ap, ◌∙◌, ◌+◌, ℕ}
use Rattle.std.proofs.lemmas.List.Elements.{All-push}
use Rattle.std.specs.Prelude.{is_some}
use Rattle.sqlite_store.specs.FileStore.{recovers, view}
use Rattle.node_files.specs.Opened.{IsOpened}
use Rattle.node_files.proofs.folder.Folder.open_nodes.Goals as goal

pub loop-k-preserved : goal.loop-k-preserved
loop-k-preserved g c = (
  c.in-Ok.ensures.len ∙ ap (λ (n : ℕ). n + 1) c.loop-k.invariant.0,
  rw c.in-Ok.ensures.items (All-push
      (λ node. IsOpened view recovers g.C.ValueColumns.columns (is_some node.damage) node.keep.keep)
      c.loop-k.nodes.items c.in_ok-node.node c.loop-k.invariant.1 c.in_ok-node.ensures),
)
