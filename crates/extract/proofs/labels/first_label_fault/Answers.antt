use Rattle.extract.proofs.Words.{◌≡◌, Some, [], map, ap, subst, IsFirstLabelFault}
use Rattle.extract.proofs.LabelsLemmas.{label-valid, label-fault, label-only}
use Rattle.extract.proofs.labels.first_label_fault.Goals as goal

pub returns-in-Some-clause-wrong : goal.returns-in-Some-clause-wrong
returns-in-Some-clause-wrong c =
    λ fault e.
    let same : c.in-Some.fault ≡ fault = (let h = e in cc) in
    subst (IsFirstLabelFault c.args.statements.now [] (map (λ label. label.now) c.args.labels.now)) same
    (label-fault c.args.statements.now c.args.frames.now.statements c.requires.same c.requires.once (λ label. label.now) c.args.labels.now c.loop-index.index _
    c.as_bytes-label.result.now c.loop-index-test.true c.as_bytes-label.ensures.value c.loop-index.invariant c.in-Some.fault c.in-Some.ensures)

pub returns-in-Some-clause-only : goal.returns-in-Some-clause-only
returns-in-Some-clause-only c =
    λ fault first.
    ap Some
    (label-only c.args.statements.now c.args.frames.now.statements c.requires.same c.requires.once (λ label. label.now) c.args.labels.now c.loop-index.index _
    c.as_bytes-label.result.now c.loop-index-test.true c.as_bytes-label.ensures.value c.loop-index.invariant c.in-Some.fault fault c.in-Some.ensures first)

pub loop-index-preserved : goal.loop-index-preserved
loop-index-preserved c =
    label-valid c.args.statements.now c.args.frames.now.statements c.requires.same c.requires.once (λ label. label.now) c.args.labels.now c.loop-index.index _
    c.as_bytes-label.result.now c.loop-index-test.true c.as_bytes-label.ensures.value c.loop-index.invariant c.in-None.ensures
