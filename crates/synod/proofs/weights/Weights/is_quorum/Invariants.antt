use Rattle.synod.proofs.Words.{◌≡◌, ◌≤◌, ◌+◌, ◌*◌, drop, true, false, get_or, weigh}
use Rattle.synod.proofs.WeighLemmas.{weigh_from}
use Rattle.synod.proofs.weights.Weights.is_quorum.Given as goal

abbrev pub invariant-loop-i : goal.invariant-loop-i
invariant-loop-i l = record {
  total : l.total + weigh_from (λ k. true) l.i (drop l.i l.weights) ≡ weigh (λ k. true) l.weights;
  marked : l.marked + weigh_from (λ k. get_or l.fn.marks k false) l.i (drop l.i l.weights) ≡ weigh (λ k. get_or l.fn.marks k false) l.weights;
  few : l.total ≤ 255 * l.i;
  fewer : l.marked ≤ l.total;
}
