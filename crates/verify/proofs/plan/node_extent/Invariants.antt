use Rattle.verify.proofs.Words.{◌≡◌, ◌≤◌, List, map, Derivation, extent_of}
use Rattle.verify.proofs.PlanLemmas.{IsSoFar}
use Rattle.verify.proofs.plan.node_extent.Given as goal

abbrev pub invariant-loop-child : goal.invariant-loop-child
invariant-loop-child l = (l.nodes ≤ 65537) × (l.depth ≤ 1025) × ((ts : List Derivation) → l.extents ≡ map extent_of ts → IsSoFar ts l.child-items l.child-index l.nodes l.depth)
