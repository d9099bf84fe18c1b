use Rattle.file_keep.proofs.Words.{take, columns_in, number_of, rows_from}
use Rattle.file_keep.specs.Tables.{Scans}
use Rattle.file_keep.proofs.tables.Tables.check_tree.Given as goal

-- the cursor has given the rows of the slots so far
abbrev pub invariant-loop-slot : goal.invariant-loop-slot
invariant-loop-slot g l =
    Scans g.S.Store.view g.S.Store.recovers l.fn.self.store l.self.store (number_of l.tree) (rows_from (columns_in g.C.ValueColumns.columns l.tree) 0 (take l.slot l.source.kept.accepted))
