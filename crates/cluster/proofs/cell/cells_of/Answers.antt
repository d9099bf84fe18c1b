use Rattle.cluster.proofs.Words.{◌++◌, ◌∷◌, [], ap, ◌∙◌, arith, Cell}
use Rattle.cluster.proofs.CellsLemmas.{new_cells-push}
use Rattle.cluster.proofs.cell.cells_of.Goals as goal

pub loop-k-preserved : goal.loop-k-preserved
loop-k-preserved c =
    new_cells-push c.args.work_limit c.args.weights c.loop-k.k c.loop-k.cells.items c.push.new.self.items (c.in_ok-push.ensures.items ∙ ap (λ (x : Cell). c.loop-k.cells.items ++ x ∷ []) c.new.ensures) c.loop-k.invariant
    (omega (arith, c.count-k-end.ensures.count, c.loop-k-test.true))
