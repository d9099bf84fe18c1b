use Rattle.verify.proofs.Words.{◌≡◌, map, take, extent_of, built}
use Rattle.verify.proofs.plan.measure.Given as goal

abbrev pub invariant-loop-node : goal.invariant-loop-node
invariant-loop-node l = l.extents.items ≡ map extent_of (built (take l.node-index l.nodes))
