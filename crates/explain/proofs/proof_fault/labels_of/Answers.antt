use Rattle.explain.proofs.Words.{◌∙◌, ap, arith, refl, map, stmt_at, label_or_empty}
use Rattle.std.proofs.lemmas.List.{take_all}
use Rattle.explain.proofs.MandatoryLabelLemmas.{stands-at, labels-more}
use Rattle.explain.proofs.proof_fault.labels_of.Goals as goal

pub loop-position-init : goal.loop-position-init
loop-position-init c = c.new-labels.ensures

pub label-requires : goal.label-requires
label-requires c =
    let h = stands-at c.args.frames.now.statements c.args.at c.requires.0 c.as_slice-position-items.result.now c.loop-position.position-index _ 0 c.requires.1
    (c.as_slice-position-items.ensures.value ∙ c.in_ok-mandatory.ensures.listed c.requires.0 c.requires.1.stands) c.loop-position-test.true refl in
    (h.positive, h.within)

pub loop-position-preserved : goal.loop-position-preserved
loop-position-preserved c =
    let h = stands-at c.args.frames.now.statements c.args.at c.requires.0 c.as_slice-position-items.result.now c.loop-position.position-index _ 0 c.requires.1
    (c.as_slice-position-items.ensures.value ∙ c.in_ok-mandatory.ensures.listed c.requires.0 c.requires.1.stands) c.loop-position-test.true refl in
    labels-more c.args.frames.now.statements c.as_slice-position-items.result.now c.loop-position.position-index _ 0 c.in-Some.label.now c.loop-position.labels c.push.new.self h c.loop-position-test.true refl
    (c.in-Some.ensures h.stmt h.stands) c.loop-position.invariant c.in_ok-push-in-Some.ensures.ok

pub returns : goal.returns
returns c s provable =
    c.loop-position.invariant ∙ ap (map (λ i. label_or_empty (stmt_at c.args.frames.now.statements i)))
    (take_all c.loop-position.position-index c.as_slice-position-items.result.now (let over = c.loop-position-test.false in omega (arith, over))
    ∙ (c.as_slice-position-items.ensures.value ∙ c.in_ok-mandatory.ensures.listed s provable.stands))
