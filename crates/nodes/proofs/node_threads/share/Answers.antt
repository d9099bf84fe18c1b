use Rattle.nodes.proofs.Words.{List, length, ap, sym, ◌∙◌, Cell}
use Rattle.nodes.proofs.CountLemmas.{new_cells-length}
use Rattle.nodes.proofs.node_threads.share.Goals as goal

pub locks-requires-clause-cells : goal.locks-requires-clause-cells
locks-requires-clause-cells g c =
    c.in_ok-switch.cells.ok.0 ∙ ap (λ (xs : List Cell). length xs) c.in_ok-switch.ensures.cells ∙ new_cells-length c.args.setup.now.work_limit 0 c.args.setup.now.weights ∙ sym c.count-node_count.ensures.count
