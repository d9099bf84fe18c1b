use Rattle.subst.proofs.Words.{◌≡◌, ℕ, ◌+◌, length, sum_by, ap, arith}
use Rattle.subst.proofs.disjoint_images.read_row.Goals as goal

done : (work left first all row : ℕ) → left ≡ 0 → work + left ≡ first + all → all ≡ row → work ≡ first + row
done work left first all row a b c = omega arith

pub returns-clause-counted : goal.returns-clause-counted
returns-clause-counted c = done _ _ _ _ _ (ap (sum_by length) c.in_default.ensures.none) c.loop-list.invariant.counted c.disjoints_with-disjoints.ensures.row
