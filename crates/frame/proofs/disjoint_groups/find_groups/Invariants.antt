use Rattle.frame.proofs.Words.{length, before, actives, is_disj, cut, AreSpansIn, statements_of}
use Rattle.frame.proofs.KindWalk.{IsAt, walked}
use Rattle.frame.proofs.MakeLemmas.{AreGroups}
use Rattle.frame.proofs.disjoint_groups.find_groups.Given as goal

abbrev pub invariant-loop-last : goal.invariant-loop-last
invariant-loop-last l = record {
  at : IsAt is_disj l.storage l.last;
  found : AreGroups l.storage.entries l.variables (actives is_disj (before (statements_of l.storage) l.fn.at)) (walked is_disj l.storage l.last) (cut l.grouped_variables.items l.groups.items);
  within : AreSpansIn (length l.grouped_variables.items) l.groups.items;
}

abbrev pub decreases-loop-last : goal.decreases-loop-last
decreases-loop-last l = l.last
