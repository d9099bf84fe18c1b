use Rattle.verify.proofs.Words.{length, arith, ap, sym, subst, take_all, ArePositions, AreEntries}
use Rattle.verify.proofs.LabelTableLemmas.{table-more}
use Rattle.verify.proofs.label_table.fill_table.Goals as goal

pub loop-position-preserved : goal.loop-position-preserved
loop-position-preserved c =
    table-more c.args.frames.now.statements c.args.at c.args.labels.now c.as_slice-position-items.result.now c.loop-position.position-index _ c.loop-position.table.items c.push.new.self.items c.entry_of.result
    (subst (ArePositions c.args.frames.now.statements c.args.labels.now) (sym c.as_slice-position-items.ensures.value) c.in_ok-positions.ensures.found)
    c.loop-position-test.true c.loop-position.invariant c.in_ok-push.ensures.items c.entry_of.ensures

pub returns-clause-entries : goal.returns-clause-entries
returns-clause-entries c =
    let over = c.loop-position-test.false in
    let count = c.in_ok-positions.ensures.found.count in
    let same = ap length c.as_slice-position-items.ensures.value in
    subst (λ ls. AreEntries c.args.frames.now.statements c.args.at ls c.loop-position.table.items) (take_all c.loop-position.position-index c.args.labels.now (omega (arith, over, count, same))) c.loop-position.invariant
