use Rattle.file_keep.specs.Tables.{Keeps}
use Rattle.file_keep.proofs.file_keep.put_record.Given as goal

-- nothing that a crash leaves is new
abbrev pub invariant-loop-slot : goal.invariant-loop-slot
invariant-loop-slot g l = Keeps g.S.Store.view g.S.Store.recovers l.fn.tables.store l.tables.store
