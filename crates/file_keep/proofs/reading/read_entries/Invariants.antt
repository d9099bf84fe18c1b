use Rattle.file_keep.proofs.Words.{◌≡◌, trimmed}
use Rattle.file_keep.specs.Tables.{Keeps}
use Rattle.std.specs.Prelude.{IsSome}
use Rattle.file_keep.proofs.reading.read_entries.Given as goal

-- the cursor can be used, and the record ends in an entry
abbrev pub invariant-loop-entry : goal.invariant-loop-entry
invariant-loop-entry g l = record {
  live : IsSome ((g.S.Store.view l.tables.store).cursors 0);
  keeps : Keeps g.S.Store.view g.S.Store.recovers l.fn.tables.store l.tables.store;
  whole : trimmed l.stored.kept.accepted ≡ l.stored.kept.accepted;
}
