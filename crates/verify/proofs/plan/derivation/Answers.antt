use Rattle.verify.proofs.Words.{length, arith, sym, ap, ◌∙◌, subst, Derives, IsSmall, pick, built}
use Rattle.verify.proofs.RightLemmas.{derives-same, root, some-number, extents-length, root-small}
use Rattle.verify.proofs.plan.derivation.Goals as goal

pub index-root-requires : goal.index-root-requires
index-root-requires c = let h = some-number c.args.frames.now.statements c.args.at c.in_ok-plan.ensures.once c.args.items.now c.in-Some.plan (rw c.in-Some.is at c.in_ok-plan.ensures.planned).right (rw c.in-Some.is at c.in_ok-plan.ensures.planned).grown in omega (arith, h)

pub index-requires : goal.index-requires
index-requires c =
    let r = (root c.args.frames.now.statements c.args.at c.in_ok-plan.ensures.once c.args.items.now c.in-Some.plan c.index-root.result.now c.index-root.result.now (rw c.in-Some.is at c.in_ok-plan.ensures.planned).right (rw c.in-Some.is at c.in_ok-plan.ensures.planned).is_plan (rw c.in-Some.is at c.in_ok-plan.ensures.planned).grown c.index-root.ensures) in
    omega (arith, r.there, extents-length c.deref.result.now c.in_ok-extents.extents.items c.in_ok-extents.ensures, ap length c.deref.ensures.value)

pub expand-requires-clause-there : goal.expand-requires-clause-there
expand-requires-clause-there c =
    let r = (root c.args.frames.now.statements c.args.at c.in_ok-plan.ensures.once c.args.items.now c.in-Some.plan c.index-root.result.now c.index-root.result.now (rw c.in-Some.is at c.in_ok-plan.ensures.planned).right (rw c.in-Some.is at c.in_ok-plan.ensures.planned).is_plan (rw c.in-Some.is at c.in_ok-plan.ensures.planned).grown c.index-root.ensures) in
    omega (arith, r.there, ap length c.deref-2.ensures.value)

pub returns-then-not-is_small-clause-only_large : goal.returns-then-not-is_small-clause-only_large
returns-then-not-is_small-clause-only_large c = λ same.
    let r = (root c.args.frames.now.statements c.args.at c.in_ok-plan.ensures.once c.args.items.now c.in-Some.plan c.index-root.result.now c.index-root.result.now (rw c.in-Some.is at c.in_ok-plan.ensures.planned).right (rw c.in-Some.is at c.in_ok-plan.ensures.planned).is_plan (rw c.in-Some.is at c.in_ok-plan.ensures.planned).grown c.index-root.ensures) in
    (r.tree, r.derives, λ small. let t = c.is_small.ensures.1 ((root-small c.args.frames.now.statements c.args.at c.args.items.now c.in-Some.plan c.deref.result.now c.in_ok-extents.extents.items c.index-root.result.now c.index.result.now r c.deref.ensures.value c.in_ok-extents.ensures c.index.ensures).0 small) in let f = c.if-not-is_small.true in cc)

pub returns-clause-tree : goal.returns-clause-tree
returns-clause-tree c =
    let r = (root c.args.frames.now.statements c.args.at c.in_ok-plan.ensures.once c.args.items.now c.in-Some.plan c.index-root.result.now c.index-root.result.now (rw c.in-Some.is at c.in_ok-plan.ensures.planned).right (rw c.in-Some.is at c.in_ok-plan.ensures.planned).is_plan (rw c.in-Some.is at c.in_ok-plan.ensures.planned).grown c.index-root.ensures) in
    subst (Derives c.args.frames.now.statements c.args.at c.args.items.now) (sym (c.in_ok-expand.ensures ∙ (ap (λ ns. pick (built ns) c.index-root.result.now) c.deref-2.ensures.value ∙ r.stands))) r.derives

pub returns-clause-small : goal.returns-clause-small
returns-clause-small c =
    let r = (root c.args.frames.now.statements c.args.at c.in_ok-plan.ensures.once c.args.items.now c.in-Some.plan c.index-root.result.now c.index-root.result.now (rw c.in-Some.is at c.in_ok-plan.ensures.planned).right (rw c.in-Some.is at c.in_ok-plan.ensures.planned).is_plan (rw c.in-Some.is at c.in_ok-plan.ensures.planned).grown c.index-root.ensures) in
    subst IsSmall (sym (c.in_ok-expand.ensures ∙ (ap (λ ns. pick (built ns) c.index-root.result.now) c.deref-2.ensures.value ∙ r.stands))) ((root-small c.args.frames.now.statements c.args.at c.args.items.now c.in-Some.plan c.deref.result.now c.in_ok-extents.extents.items c.index-root.result.now c.index.result.now r c.deref.ensures.value c.in_ok-extents.ensures c.index.ensures).1 (c.is_small.ensures.0 c.if-not-is_small.false))

pub returns-clause-large : goal.returns-clause-large
returns-clause-large c = λ t derives big.
    absurd (big (subst IsSmall (derives-same c.args.frames.now.statements c.args.at c.in_ok-plan.ensures.once c.args.items.now _ t (returns-clause-tree c) derives) (returns-clause-small c)))
