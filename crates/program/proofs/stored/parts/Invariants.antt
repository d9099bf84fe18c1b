-- The keeps and the damages of the nodes so far.
use Rattle.std.proofs.Common.{◌≡◌, map}
use Rattle.program.proofs.stored.parts.Given as goal

abbrev pub invariant-loop-node : goal.invariant-loop-node
invariant-loop-node g l =
    (l.keeps.items ≡ map (λ node. node.keep) l.yielded) × (l.damages.items ≡ map (λ node. node.damage) l.yielded)
