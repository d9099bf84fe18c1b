use Rattle.frame.specs.ListsOfPairs.{is_numbered_pair}
use Rattle.subst.proofs.Words.{◌≡◌, ◌+◌, length, sum_by, take, list_all, numbered_row}
use Rattle.subst.proofs.disjoint_images.are_pairs.Given as goal

-- the answer for the variables so far, and what they count
abbrev pub invariant-loop-variable : goal.invariant-loop-variable
invariant-loop-variable l = record {
  told : l.all ≡ list_all (λ u. list_all (is_numbered_pair l.pairs u) l.others) (take l.variable-index l.variables);
  counted : l.work ≡ l.fn.work + sum_by (λ u. numbered_row l.pairs u + length l.others) (take l.variable-index l.variables);
}
