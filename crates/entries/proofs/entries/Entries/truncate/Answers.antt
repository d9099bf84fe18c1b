use Rattle.entries.proofs.Words.{◌∙◌, ap, sym, take, arith, slice_get, length, take_all}
use Rattle.entries.proofs.StatementRecordLemmas.{within}
use Rattle.entries.proofs.AddedStatement.{packed-fewer, entries-fewer}
use Rattle.entries.proofs.entries.Entries.truncate.Goals as goal

pub invariant_of-self : goal.invariant_of-self
invariant_of-self c =
    let s = c.self.inside in
    let here = ap (λ xs. slice_get xs c.args.len) (sym c.deref.ensures.value) ∙ c.item-first.ensures in
    rw (c.truncate.ensures.items, c.truncate-then-len.ensures.items, c.truncate-then-len-2.ensures.items)
    (packed-fewer s.numbers.items s.groups.items s.records.items c.args.len c.item-first.result c.self.invariant here)

pub returns-then-len : goal.returns-then-len
returns-then-len c =
    let s = c.self.inside in
    let here = ap (λ xs. slice_get xs c.args.len) (sym c.deref.ensures.value) ∙ c.item-first.ensures in
    rw (c.truncate.ensures.items, c.truncate-then-len.ensures.items, c.truncate-then-len-2.ensures.items)
    (entries-fewer s.numbers.items s.groups.items s.records.items c.args.len c.item-first.result c.self.invariant here ∙ ap (take c.args.len) c.self.view_is)

pub returns-else-len : goal.returns-else-len
returns-else-len c = let s = c.self.inside in let n = within s.numbers.items s.groups.items s.records.items in let l = ap length c.self.view_is in sym (take_all c.args.len c.args.self.now (omega arith))
