use Rattle.nodes.specs.Shared.{TookOver}
use Rattle.nodes.proofs.shared_cell.take_entries.Given as goal

-- entries of the log were taken over
abbrev pub invariant-loop-entry : goal.invariant-loop-entry
invariant-loop-entry g l = TookOver l.switch l.initial.cell l.cell
