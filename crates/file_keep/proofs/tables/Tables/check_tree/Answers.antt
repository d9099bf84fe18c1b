use Rattle.file_keep.proofs.Words.{List, arith, columns_in, entry_at, length, number_of, rows_from, rows_of, subst, sym, take, ◌<◌, Row}
use Rattle.file_keep.proofs.RowLemmas.{rows_more}
use Rattle.file_keep.proofs.TableLemmas.{scans_more}
use Rattle.file_keep.specs.Tables.{Scans}
use Rattle.file_keep.proofs.tables.Tables.check_tree.Goals as goal

pub loop-slot-preserved : goal.loop-slot-preserved
loop-slot-preserved g c =
    let low : c.loop-slot.slot < length c.args.source.now.kept.accepted = omega (arith, c.top-slot-end.ensures.top, c.loop-slot-test.true) in
    subst (λ (given : List Row). Scans g.S.Store.view g.S.Store.recovers c.args.self.now.store c.expect_slot.new.self.store (number_of c.args.tree) given)
    (sym (rows_more (columns_in g.C.ValueColumns.columns c.args.tree) c.args.source.now.kept.accepted c.loop-slot.slot low))
    (scans_more c.args.self.now.store c.loop-slot.self.store c.expect_slot.new.self.store (number_of c.args.tree)
    (rows_from (columns_in g.C.ValueColumns.columns c.args.tree) 0 (take c.loop-slot.slot c.args.source.now.kept.accepted))
    (rows_of (columns_in g.C.ValueColumns.columns c.args.tree) c.loop-slot.slot (entry_at c.args.source.now.kept.accepted c.loop-slot.slot))
    c.loop-slot.invariant c.expect_slot.ensures.keeps c.in_ok-expect_slot.ensures.live c.in_ok-expect_slot.ensures.next)
