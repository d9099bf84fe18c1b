use Rattle.verify.proofs.Words.{length, take, arith, sym, ap, ◌∙◌, subst, extent_of, IsAfter, built, derive}
use Rattle.verify.proofs.PlanLemmas.{node-after, measured-more, measured-length}
use Rattle.verify.proofs.plan.measure.Goals as goal

pub node_extent-one-requires-clause-after : goal.node_extent-one-requires-clause-after
node_extent-one-requires-clause-after c =
    let l = measured-length c.args.nodes.now c.loop-node.node-index c.loop-node.extents.items (let h = c.loop-node-test.true in omega (arith, h)) c.loop-node.invariant in
    subst (λ n. IsAfter n c.node-item.result) (sym (ap length c.deref.ensures.value ∙ l)) (subst (IsAfter c.loop-node.node-index) (sym c.node-item.is) (node-after c.args.nodes.now c.loop-node.node-index c.node-item.result c.requires c.loop-node-test.true))

pub loop-node-preserved : goal.loop-node-preserved
loop-node-preserved c =
    measured-more c.args.nodes.now c.loop-node.node-index c.node-item.result c.loop-node.extents.items c.push.new.self.items c.node_extent-one.result c.loop-node-test.true c.loop-node.invariant
    (c.node_extent-one.ensures (built (take c.loop-node.node-index c.args.nodes.now)) (c.deref.ensures.value ∙ c.loop-node.invariant) ∙ ap (λ n. extent_of (derive (built (take c.loop-node.node-index c.args.nodes.now)) n)) c.node-item.is)
    c.in_ok-push.ensures.items
