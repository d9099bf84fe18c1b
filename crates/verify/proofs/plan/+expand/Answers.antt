use Rattle.verify.proofs.Words.{map, arith, sym, ap, ◌∙◌, apply, from_list, built, pick}
use Rattle.verify.proofs.TreeLemmas.{derivation-hyp, derivation-apply}
use Rattle.verify.proofs.StepLemmas.{all-taken}
use Rattle.verify.proofs.PlanLemmas.{picked-hyp, picked-apply, child-low}
use Rattle.verify.proofs.plan.+expand.Goals as goal

pub expand-requires : goal.expand-requires
expand-requires t c =
    let low = child-low c.args.nodes.now c.args.number c.in-Apply.position c.in-Apply.children c.index-nodes-number.result c.deref-child-items.result.now c.loop-child.child-index c.requires.ordered c.requires.there
    c.index-nodes-number.is c.in-Apply.is c.deref-child-items.ensures.value c.loop-child-test.true in
    let d = c.decreases in
    let there = c.requires.there in
    (omega (arith, low, d), (c.requires.ordered, omega (arith, low, there)))

pub returns-in-Hyp : goal.returns-in-Hyp
returns-in-Hyp t c = derivation-hyp c.in-Hyp.position ∙ sym (picked-hyp c.args.nodes.now c.args.number c.in-Hyp.position c.index-nodes-number.result c.requires.there c.index-nodes-number.is c.in-Hyp.is)

pub returns-after-loop-child : goal.returns-after-loop-child
returns-after-loop-child t c =
    derivation-apply c.in-Apply.position c.loop-child.trees
    ∙ (ap (λ ks. apply c.in-Apply.position (from_list ks)) (c.loop-child.invariant ∙ (all-taken (pick (built c.args.nodes.now)) c.deref-child-items.result.now c.loop-child.child-index c.loop-child-test.false ∙ ap (map (pick (built c.args.nodes.now))) c.deref-child-items.ensures.value))
    ∙ sym (picked-apply c.args.nodes.now c.args.number c.in-Apply.position c.in-Apply.children c.index-nodes-number.result c.requires.ordered c.requires.there c.index-nodes-number.is c.in-Apply.is))
