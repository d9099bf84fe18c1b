use Rattle.nodes.proofs.Words.{◌≡◌, ◌+◌, vec_len}
use Rattle.nodes.proofs.node_threads.locks.Given as goal

-- as many cells and rights are left as locks are still to be made
abbrev pub invariant-loop-k : goal.invariant-loop-k
invariant-loop-k g l = record {
  cells : vec_len l.cells + l.k ≡ l.node_count;
  book : l.pens.book ≡ g.J.Naming.book;
  next : l.pens.next ≡ 2 + l.k;
  left : l.pens.left + l.k ≡ 256;
  locks : vec_len l.locks ≡ l.k;
}
