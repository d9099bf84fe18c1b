use Rattle.library.proofs.Words.{◌≡◌, map, take, bares, stmt_at, label_or_empty}
use Rattle.library.proofs.axioms_used.items_of.Given as goal

abbrev pub invariant-loop-position : goal.invariant-loop-position
invariant-loop-position l = l.labels ≡ map (λ i. label_or_empty (stmt_at (bares l.database) i)) (take l.position-index l.position-items)
