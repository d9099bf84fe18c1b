use Rattle.verify.proofs.Words.{◌≡◌, ℕ, length, get_or, arith, ◌∙◌, max, nat_tests, below-at, nat_cmp, ord_max}
use Rattle.verify.proofs.PlanLemmas.{so-far-step, so-far-end, extent-low}
use Rattle.verify.proofs.plan.node_extent.Goals as goal

larger : (a b : ℕ) → ord_max nat_cmp a b ≡ max a b
larger a b = grind (arith, nat_tests)

pub extent_with_number-extent-requires : goal.extent_with_number-extent-requires
extent_with_number-extent-requires c =
    below-at (length c.args.extents.now) c.deref-child-items.result.now c.loop-child.child-index 0 (rw (c.deref-child-items.ensures.value) (rw c.in-Apply.is at c.requires.after)) c.loop-child-test.true

pub overflow_add-nodes : goal.overflow_add-nodes
overflow_add-nodes c = omega (arith, (extent-low c.args.extents.now c.requires.measured.0 (get_or c.deref-child-items.result.now c.loop-child.child-index 0) c.extent_with_number-extent.result c.requires.measured.1 c.extent_with_number-extent.ensures).0, c.loop-child.invariant.0)

pub overflow_add-extent : goal.overflow_add-extent
overflow_add-extent c = omega (arith, (extent-low c.args.extents.now c.requires.measured.0 (get_or c.deref-child-items.result.now c.loop-child.child-index 0) c.extent_with_number-extent.result c.requires.measured.1 c.extent_with_number-extent.ensures).1)

pub loop-child-preserved : goal.loop-child-preserved
loop-child-preserved c =
    let d : c.max-depth.result ≡ max c.loop-child.depth c.min.result = c.max-depth.ensures ∙ larger c.loop-child.depth c.min.result in
    let n = c.min-nodes.ensures in
    let m = c.min.ensures in
    let low = c.loop-child.invariant.1 in (
      omega (arith, n),
      omega (arith, d, m, low),
      λ ts is. so-far-step ts c.deref-child-items.result.now c.args.extents.now c.loop-child.child-index c.loop-child.nodes c.loop-child.depth c.min-nodes.result c.max-depth.result c.extent_with_number-extent.result (c.loop-child.invariant.2 ts is) is c.loop-child-test.true
          c.extent_with_number-extent.ensures n (omega (arith, d, m)),
    )

pub returns : goal.returns
returns c = λ ts is.
    so-far-end ts c.deref-child-items.result.now c.loop-child.child-index c.loop-child.nodes c.loop-child.depth _ c.in-Apply.children _ (c.loop-child.invariant.2 ts is) (omega (arith, c.loop-child-test.false)) c.deref-child-items.ensures.value c.in-Apply.is
