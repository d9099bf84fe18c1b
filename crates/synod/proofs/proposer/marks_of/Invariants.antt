use Rattle.synod.proofs.Words.{◌≡◌, ◌<◌, ℕ, get_or, length, false, is_heard}
use Rattle.synod.proofs.proposer.marks_of.Given as goal

abbrev pub invariant-loop-node : goal.invariant-loop-node
invariant-loop-node l = record {
  long : length l.marks ≡ 9;
  marked : (k : ℕ) → k < l.node → get_or l.marks k false ≡ is_heard l.heard k;
}
