use Rattle.std.proofs.Common.{length, slice_get, ap, arith, ◌+◌}
use Rattle.entries.proofs.StatementRecordLemmas.{within, at-index, groups-count, is-stored}
use Rattle.entries.proofs.entries.Entries.stored.Goals as goal

pub item-statement_record-requires : goal.item-statement_record-requires
item-statement_record-requires c = let s = c.self.inside in let n = within s.numbers.items s.groups.items s.records.items in let v = ap length c.self.view_is in let d = ap length c.deref.ensures.value in omega arith

pub numbers_at-requires-clause-within : goal.numbers_at-requires-clause-within
numbers_at-requires-clause-within c = let s = c.self.inside in let n = within s.numbers.items s.groups.items s.records.items in let v = ap length c.self.view_is in let d = ap length c.deref-2.ensures.value in omega arith

pub numbers_at-requires-clause-placed : goal.numbers_at-requires-clause-placed
numbers_at-requires-clause-placed c =
    let s = c.self.inside in
    let a = at-index s.numbers.items s.groups.items s.records.items c.args.self.now c.args.index c.item-statement_record.result c.self.invariant.kept c.self.view_is c.deref.ensures.value c.item-statement_record.ensures in
    rw (c.deref-3.ensures.value, c.deref-2.ensures.value) a.kept.placed

pub overflow_add-from : goal.overflow_add-from
overflow_add-from c =
    let s = c.self.inside in
    let a = at-index s.numbers.items s.groups.items s.records.items c.args.self.now c.args.index c.item-statement_record.result c.self.invariant.kept c.self.view_is c.deref.ensures.value c.item-statement_record.ensures in
    let n = groups-count s.numbers.items s.groups.items c.item-statement_record.result (slice_get s.records.items (c.args.index + 1)) (slice_get c.args.self.now c.args.index) c.numbers_at.result.0 c.numbers_at.result.1 a (rw (← c.deref-3.ensures.value, ← c.deref-2.ensures.value) c.numbers_at.ensures.numbers) c.numbers_at.ensures.layout in
    let w = a.kept.grouped in let d = ap length c.deref-4.ensures.value in omega arith

pub part-groups-requires : goal.part-groups-requires
part-groups-requires c =
    let s = c.self.inside in
    let a = at-index s.numbers.items s.groups.items s.records.items c.args.self.now c.args.index c.item-statement_record.result c.self.invariant.kept c.self.view_is c.deref.ensures.value c.item-statement_record.ensures in
    let n = groups-count s.numbers.items s.groups.items c.item-statement_record.result (slice_get s.records.items (c.args.index + 1)) (slice_get c.args.self.now c.args.index) c.numbers_at.result.0 c.numbers_at.result.1 a (rw (← c.deref-3.ensures.value, ← c.deref-2.ensures.value) c.numbers_at.ensures.numbers) c.numbers_at.ensures.layout in
    let w = a.kept.grouped in let d = ap length c.deref-4.ensures.value in (omega arith, omega arith)

pub returns : goal.returns
returns c =
    let s = c.self.inside in
    let a = at-index s.numbers.items s.groups.items s.records.items c.args.self.now c.args.index c.item-statement_record.result c.self.invariant.kept c.self.view_is c.deref.ensures.value c.item-statement_record.ensures in
    is-stored s.numbers.items s.groups.items c.item-statement_record.result (slice_get s.records.items (c.args.index + 1)) (slice_get c.args.self.now c.args.index) c.numbers_at.result.0 c.numbers_at.result.1 a (rw (← c.deref-3.ensures.value, ← c.deref-2.ensures.value) c.numbers_at.ensures.numbers) c.numbers_at.ensures.layout c.part-groups.result (rw (← c.deref-4.ensures.value) c.part-groups.ensures)
