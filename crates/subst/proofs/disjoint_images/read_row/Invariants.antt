use Rattle.subst.proofs.Words.{◌≡◌, ◌+◌, length, sum_by}
use Rattle.subst.proofs.DisjointImageLemmas.{IsRead}
use Rattle.subst.proofs.disjoint_images.read_row.Given as goal

-- the `$d` so far were read and counted
abbrev pub invariant-loop-list : goal.invariant-loop-list
invariant-loop-list l = record {
  read : IsRead l.initial.disjoints l.disjoints l.row;
  counted : l.work + sum_by length l.disjoints ≡ l.initial.work + sum_by length l.initial.disjoints;
}

abbrev pub decreases-loop-list : goal.decreases-loop-list
decreases-loop-list l = length l.disjoints
