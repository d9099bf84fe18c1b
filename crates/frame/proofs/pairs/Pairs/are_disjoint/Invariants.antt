use Rattle.frame.proofs.Words.{◌≡◌, true, take, decode, are_disjoint}
use Rattle.frame.proofs.pairs.Pairs.are_disjoint.Given as goal

abbrev pub invariant-loop-x : goal.invariant-loop-x
invariant-loop-x l = are_disjoint l.self.statements (decode l.self.names (take l.x-index l.left)) (decode l.self.names l.right) ≡ true
