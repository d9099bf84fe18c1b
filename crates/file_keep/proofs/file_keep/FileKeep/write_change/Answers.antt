use Rattle.file_keep.proofs.Words.{ap, arith, refl, rules, subst, sym, ◌+◌, ◌∙◌, ◌≡◌, IsClean, KeptPart}
use Rattle.file_keep.proofs.KeepLemmas.{content_of, keep_in_doubt, keep_written, says_stored, whole_after}
use Rattle.file_keep.specs.Keeps.{IsWritten, KeepView}
use Rattle.synod.specs.Record.{changed}
use Rattle.file_keep.specs.declared.file_keep.Standing.TheVariants.{Unwritten}
use Rattle.file_keep.proofs.file_keep.FileKeep.write_change.Goals as goal

pub returns-clause-written : goal.returns-clause-written
returns-clause-written g c =
    let written = subst (λ (v : KeepView g.row.V.Denot g.row.S.Denot). IsWritten g.S.Store.view g.C.ValueColumns.columns v) (sym c.self.view_is) c.in_ok-begin_change.ensures.written in
    let kept : c.apply_change.new.self.kept ≡ changed c.self.inside.stored.kept c.in_ok-change.change =
    c.apply_change.ensures ∙ ap (λ (k : KeptPart g.row.V.Denot). changed k c.in_ok-change.change) c.ready_change.ensures.kept in
    let added : c.in-Some.changes ≡ c.self.inside.changes + 1 = search rules in
    says_stored g.S.Store.view g.C.ValueColumns.columns c.self.inside.tables.store c.put_change.new.tables.store c.self.inside.stored.kept c.apply_change.new.self.kept c.self.inside.changes c.in-Some.changes
    c.in_ok-change.change c.changed_slot-slot.result kept added c.changed_slot-slot.ensures c.put_change.ensures.keeps.clean written c.in_ok-put_change.ensures.put

pub invariant_of-self-in_err-put_change : goal.invariant_of-self-in_err-put_change
invariant_of-self-in_err-put_change g c =
    keep_in_doubt g.S.Store.view g.C.ValueColumns.columns c.put_change.new.tables.store Unwritten (content_of c.apply_change.new.self.kept c.in-Some.changes) refl
    (λ (h : IsClean (g.S.Store.view c.put_change.new.tables.store)). c.put_change.ensures.keeps.trees h (c.self.invariant.trees (omega (arith, c.put_change.ensures.keeps.clean, h))))
    (whole_after c.self.inside.stored.kept c.ready_change.new.stored.kept c.apply_change.new.self.kept c.in_ok-change.change c.ready_change.ensures.kept c.apply_change.ensures c.self.invariant.whole)

pub invariant_of-self-2 : goal.invariant_of-self-2
invariant_of-self-2 g c =
    let before = subst (λ (v : KeepView g.row.V.Denot g.row.S.Denot). IsWritten g.S.Store.view g.C.ValueColumns.columns v) (sym c.self.view_is) c.in_ok-begin_change.ensures.written in
    let kept : c.apply_change.new.self.kept ≡ changed c.self.inside.stored.kept c.in_ok-change.change =
    c.apply_change.ensures ∙ ap (λ (k : KeptPart g.row.V.Denot). changed k c.in_ok-change.change) c.ready_change.ensures.kept in
    let added : c.in-Some.changes ≡ c.self.inside.changes + 1 = search rules in
    keep_written g.S.Store.view g.C.ValueColumns.columns c.put_change.new.tables.store (content_of c.apply_change.new.self.kept c.in-Some.changes)
    (λ (h : IsClean (g.S.Store.view c.put_change.new.tables.store)). c.put_change.ensures.keeps.trees h (c.self.invariant.trees (omega (arith, c.put_change.ensures.keeps.clean, h))))
    (says_stored g.S.Store.view g.C.ValueColumns.columns c.self.inside.tables.store c.put_change.new.tables.store c.self.inside.stored.kept c.apply_change.new.self.kept c.self.inside.changes c.in-Some.changes
    c.in_ok-change.change c.changed_slot-slot.result kept added c.changed_slot-slot.ensures c.put_change.ensures.keeps.clean before c.in_ok-put_change.ensures.put)
    (whole_after c.self.inside.stored.kept c.ready_change.new.stored.kept c.apply_change.new.self.kept c.in_ok-change.change c.ready_change.ensures.kept c.apply_change.ensures c.self.invariant.whole)
