use Rattle.cluster.proofs.Words.{◌≡◌, take, new_cells}
use Rattle.cluster.proofs.cell.cells_of.Given as goal

abbrev pub invariant-loop-k : goal.invariant-loop-k
invariant-loop-k l = l.cells.items ≡ new_cells l.work_limit 0 (take l.k l.fn.weights)
