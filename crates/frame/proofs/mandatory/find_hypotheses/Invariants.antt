use Rattle.frame.proofs.Words.{◌-◌, map, before, is_essential, actives, statements_of, IsWithEssential}
use Rattle.frame.proofs.KindWalk.{IsAt, walked}
use Rattle.frame.proofs.CollectLemmas.{HasLeft}
use Rattle.frame.proofs.mandatory.find_hypotheses.Given as goal

abbrev pub invariant-loop-essential : goal.invariant-loop-essential
invariant-loop-essential l = record {
  at : IsAt is_essential l.storage l.essential;
  left : HasLeft (IsWithEssential l.storage (l.at - 1)) (map (λ q. q.0) (actives is_essential (before (statements_of l.storage) l.at))) (map (λ q. q.0) (walked is_essential l.storage l.essential)) l.initial.list.items l.list.items;
}

abbrev pub decreases-loop-essential : goal.decreases-loop-essential
decreases-loop-essential l = l.essential
