use Rattle.verify.proofs.Words.{[], ◌-◌, suc, true, false, true≢false, refl, get_or, length, arith, ap, sym, subst, IfOk, IfOk-weaker, item_of, RunsItemByNumber, RunsItemIn, IsHeard, IsMark, IsRecall}
use Rattle.verify.proofs.LabelTableLemmas.{entry_at, suc_back}
use Rattle.verify.proofs.Named.{goes-mark, goes-recall}
use Rattle.verify.proofs.StepLemmas.{cite-item, recall-item}
use Rattle.verify.proofs.WalkLemmas.{told}
use Rattle.verify.proofs.ItemCountLemmas.{mark-counted, recall-counted}
use Rattle.subst.proofs.PastLemmas.{err_weaker}
use Rattle.verify.specs.Counted.{HasCountedItem, IsPastItem}
use Rattle.verify.proofs.citation.step.Goals as goal

-- ---- a mark

pub returns-then-not-branch-clause-effect : goal.returns-then-not-branch-clause-effect
returns-then-not-branch-clause-effect g c = λ labels are.
    subst (λ i. RunsItemByNumber false c.args.context.now.frames.now.statements c.args.context.now.at c.args.context.now.frames.now.names i c.args.buffers.now.results.results c.mark.new.self.results) (ap (item_of labels) (sym c.if-number-eq0.true))
    (goes-mark c.args.context.now.frames.now.names c.args.context.now.frames.now.statements c.args.context.now.at false c.args.buffers.now.results.results c.mark.new.self.results c.requires.named (rw c.if-not-branch.true at c.in_ok-mark.ensures.marks))

pub returns-then-number-eq0-clause-effect : goal.returns-then-number-eq0-clause-effect
returns-then-number-eq0-clause-effect g c = λ labels are.
    subst (λ i. RunsItemByNumber true c.args.context.now.frames.now.statements c.args.context.now.at c.args.context.now.frames.now.names i c.args.buffers.now.results.results c.mark.new.self.results) (ap (item_of labels) (sym c.if-number-eq0.true))
    (goes-mark c.args.context.now.frames.now.names c.args.context.now.frames.now.statements c.args.context.now.at true c.args.buffers.now.results.results c.mark.new.self.results c.requires.named (rw c.if-not-branch.false at c.in_ok-mark.ensures.marks))

pub returns-then-number-eq0-clause-kept : goal.returns-then-number-eq0-clause-kept
returns-then-number-eq0-clause-kept g c = rw c.if-not-branch.false at c.in_ok-mark.ensures.kept

pub returns-then-number-eq0-clause-heard : goal.returns-then-number-eq0-clause-heard
returns-then-number-eq0-clause-heard g c = λ labels are.
    let goes = returns-then-number-eq0-clause-effect g c labels are in
    told g.L.Listener.follows c.args.context.now.frames.now c.args.context.now.at (item_of labels c.args.number) c.args.buffers.now.results c.mark.new.self c.args.listener.now c.mark-then-number-eq0.new.self IsMark c.in_ok-mark-2.ensures c.requires.ready.legal goes.0 goes.1 (returns-then-number-eq0-clause-kept g c)
    (λ items. ap (item_of labels) c.if-number-eq0.true)

-- ---- a citation

pub cite_entry-requires-clause-entry : goal.cite_entry-requires-clause-entry
cite_entry-requires-clause-entry g c =
    (get_or c.requires.entries.0 (c.args.number - 1) [], entry_at _ _ c.requires.entries.0 c.args.table.now (c.args.number - 1) _ c.requires.entries.1 c.if-place-table.true)

pub returns-then-place-table-clause-effect : goal.returns-then-place-table-clause-effect
returns-then-place-table-clause-effect g c = λ labels are.
    subst (λ i. IfOk c.cite_entry.result (RunsItemIn c.args.context.now i c.args.buffers.now.results c.cite_entry.new.buffers.results))
    (cite-item c.args.context.now.frames.now.statements c.args.context.now.at labels c.args.table.now are c.args.number (c.args.number - 1) (suc_back c.args.number c.if-number-eq0.false) c.if-place-table.true)
    (IfOk-weaker c.cite_entry.result _ _ (λ ok cited. cited (get_or labels (c.args.number - 1) []) (entry_at _ _ labels c.args.table.now (c.args.number - 1) _ are c.if-place-table.true)) c.cite_entry.ensures.effect)

pub returns-then-place-table-clause-heard : goal.returns-then-place-table-clause-heard
returns-then-place-table-clause-heard g c = λ labels are.
    subst (λ i. IfOk c.cite_entry.result (λ ok. IsHeard ok g.L.Listener.follows c.args.context.now.frames.now c.args.context.now.at i c.args.buffers.now.results c.cite_entry.new.buffers.results c.args.listener.now c.cite_entry.new.listener))
    (cite-item c.args.context.now.frames.now.statements c.args.context.now.at labels c.args.table.now are c.args.number (c.args.number - 1) (suc_back c.args.number c.if-number-eq0.false) c.if-place-table.true)
    (c.cite_entry.ensures.heard (get_or labels (c.args.number - 1) []) (entry_at _ _ labels c.args.table.now (c.args.number - 1) _ are c.if-place-table.true))

-- ---- a recall

pub returns-then-not-branch-2-clause-effect : goal.returns-then-not-branch-2-clause-effect
returns-then-not-branch-2-clause-effect g c = λ labels are.
    subst (λ i. RunsItemByNumber false c.args.context.now.frames.now.statements c.args.context.now.at c.args.context.now.frames.now.names i c.args.buffers.now.results.results c.recall.new.self.results) (recall-item c.args.context.now.frames.now.statements c.args.context.now.at labels c.args.table.now are c.args.number (c.args.number - 1) (suc_back c.args.number c.if-number-eq0.false) (omega (arith, c.if-place-table.false)))
    (goes-recall c.args.context.now.frames.now.names c.args.context.now.frames.now.statements c.args.context.now.at false c.args.buffers.now.results.results c.recall.new.self.results (suc (c.args.number - 1 - length c.args.table.now)) c.requires.named (rw c.if-not-branch-2.true at c.in_ok-recall.ensures.recalls))

pub returns-clause-effect : goal.returns-clause-effect
returns-clause-effect g c = λ labels are.
    subst (λ i. RunsItemByNumber true c.args.context.now.frames.now.statements c.args.context.now.at c.args.context.now.frames.now.names i c.args.buffers.now.results.results c.recall.new.self.results) (recall-item c.args.context.now.frames.now.statements c.args.context.now.at labels c.args.table.now are c.args.number (c.args.number - 1) (suc_back c.args.number c.if-number-eq0.false) (omega (arith, c.if-place-table.false)))
    (goes-recall c.args.context.now.frames.now.names c.args.context.now.frames.now.statements c.args.context.now.at true c.args.buffers.now.results.results c.recall.new.self.results (suc (c.args.number - 1 - length c.args.table.now)) c.requires.named (rw c.if-not-branch-2.false at c.in_ok-recall.ensures.recalls))

pub returns-clause-kept : goal.returns-clause-kept
returns-clause-kept g c = rw c.if-not-branch-2.false at c.in_ok-recall.ensures.kept

pub returns-clause-heard : goal.returns-clause-heard
returns-clause-heard g c = λ labels are.
    let goes = returns-clause-effect g c labels are in
    told g.L.Listener.follows c.args.context.now.frames.now c.args.context.now.at (item_of labels c.args.number) c.args.buffers.now.results c.recall.new.self c.args.listener.now c.recall-2.new.self (IsRecall (c.args.number - 1 - length c.args.table.now)) c.in_ok-recall-2.ensures c.requires.ready.legal goes.0 goes.1 (returns-clause-kept g c)
    (λ items. sym (recall-item c.args.context.now.frames.now.statements c.args.context.now.at labels c.args.table.now are c.args.number (c.args.number - 1) (suc_back c.args.number c.if-number-eq0.false) (omega (arith, c.if-place-table.false))))

-- ---- what is counted

pub returns-then-not-branch-clause-counted : goal.returns-then-not-branch-clause-counted
returns-then-not-branch-clause-counted g c = λ labels are.
    subst (λ i. HasCountedItem c.args.context.now i c.args.buffers.now.results c.mark.new.self c.args.meter.now c.args.meter.now false) (ap (item_of labels) (sym c.if-number-eq0.true))
    (mark-counted c.args.context.now c.args.buffers.now.results c.mark.new.self c.args.meter.now c.args.meter.now false refl (λ e. (rw c.if-not-branch.true at c.in_ok-mark.ensures.kept).0) (rw c.if-not-branch.true at c.in_ok-mark.ensures.marks))

pub returns-then-number-eq0-clause-counted : goal.returns-then-number-eq0-clause-counted
returns-then-number-eq0-clause-counted g c = λ labels are.
    subst (λ i. HasCountedItem c.args.context.now i c.args.buffers.now.results c.mark.new.self c.args.meter.now c.args.meter.now true) (ap (item_of labels) (sym c.if-number-eq0.true))
    (mark-counted c.args.context.now c.args.buffers.now.results c.mark.new.self c.args.meter.now c.args.meter.now true refl (λ e. absurd (true≢false e)) (rw c.if-not-branch.false at c.in_ok-mark.ensures.marks))

pub returns-then-place-table-clause-counted : goal.returns-then-place-table-clause-counted
returns-then-place-table-clause-counted g c = λ labels are.
    subst (λ i. IfOk c.cite_entry.result (HasCountedItem c.args.context.now i c.args.buffers.now.results c.cite_entry.new.buffers.results c.args.meter.now c.cite_entry.new.meter))
    (cite-item c.args.context.now.frames.now.statements c.args.context.now.at labels c.args.table.now are c.args.number (c.args.number - 1) (suc_back c.args.number c.if-number-eq0.false) c.if-place-table.true)
    (IfOk-weaker c.cite_entry.result _ _ (λ ok counted. counted (get_or labels (c.args.number - 1) []) (entry_at _ _ labels c.args.table.now (c.args.number - 1) _ are c.if-place-table.true)) c.cite_entry.ensures.counted)

pub returns-then-not-branch-2-clause-counted : goal.returns-then-not-branch-2-clause-counted
returns-then-not-branch-2-clause-counted g c = λ labels are.
    subst (λ i. HasCountedItem c.args.context.now i c.args.buffers.now.results c.recall.new.self c.args.meter.now c.args.meter.now false) (recall-item c.args.context.now.frames.now.statements c.args.context.now.at labels c.args.table.now are c.args.number (c.args.number - 1) (suc_back c.args.number c.if-number-eq0.false) (omega (arith, c.if-place-table.false)))
    (recall-counted c.args.context.now c.args.buffers.now.results c.recall.new.self c.args.meter.now c.args.meter.now false (c.args.number - 1 - length c.args.table.now) refl c.in_ok-recall.ensures.light (λ e. (rw c.if-not-branch-2.true at c.in_ok-recall.ensures.kept).0) (rw c.if-not-branch-2.true at c.in_ok-recall.ensures.recalls))

pub returns-clause-counted : goal.returns-clause-counted
returns-clause-counted g c = λ labels are.
    subst (λ i. HasCountedItem c.args.context.now i c.args.buffers.now.results c.recall.new.self c.args.meter.now c.args.meter.now true) (recall-item c.args.context.now.frames.now.statements c.args.context.now.at labels c.args.table.now are c.args.number (c.args.number - 1) (suc_back c.args.number c.if-number-eq0.false) (omega (arith, c.if-place-table.false)))
    (recall-counted c.args.context.now c.args.buffers.now.results c.recall.new.self c.args.meter.now c.args.meter.now true (c.args.number - 1 - length c.args.table.now) refl c.in_ok-recall.ensures.light (λ e. absurd (true≢false e)) (rw c.if-not-branch-2.false at c.in_ok-recall.ensures.recalls))

pub returns-then-place-table-clause-costly : goal.returns-then-place-table-clause-costly
returns-then-place-table-clause-costly g c = λ labels are.
    err_weaker c.cite_entry.result _ _
    (λ stop costly is. subst (λ i. IsPastItem c.args.context.now i c.args.buffers.now.results c.args.meter.now)
    (cite-item c.args.context.now.frames.now.statements c.args.context.now.at labels c.args.table.now are c.args.number (c.args.number - 1) (suc_back c.args.number c.if-number-eq0.false) c.if-place-table.true)
    (costly is (get_or labels (c.args.number - 1) []) (entry_at _ _ labels c.args.table.now (c.args.number - 1) _ are c.if-place-table.true)))
    c.cite_entry.ensures.costly
