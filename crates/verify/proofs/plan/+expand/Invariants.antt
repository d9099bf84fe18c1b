use Rattle.verify.proofs.Words.{◌≡◌, map, take, derivation_of, built, pick}
use Rattle.verify.proofs.plan.+expand.Given as goal

abbrev pub decreases-expand : goal.decreases-expand
decreases-expand l = l.number

abbrev pub invariant-loop-child : goal.invariant-loop-child
invariant-loop-child l = map derivation_of l.trees.items ≡ map (pick (built l.nodes)) (take l.child-index l.child-items)
