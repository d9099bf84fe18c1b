use Rattle.explain.proofs.Words.{◌≡◌, map, take, stmt_at, label_or_empty}
use Rattle.explain.proofs.proof_fault.labels_of.Given as goal

abbrev pub invariant-loop-position : goal.invariant-loop-position
invariant-loop-position l = l.labels ≡ map (λ i. label_or_empty (stmt_at l.frames.statements i)) (take l.position-index l.position-items)
