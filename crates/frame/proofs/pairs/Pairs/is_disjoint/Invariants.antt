use Rattle.frame.proofs.Words.{◌≡◌, true, take, name_at, decode, is_symbol_disjoint}
use Rattle.frame.proofs.pairs.Pairs.is_disjoint.Given as goal

abbrev pub invariant-loop-y : goal.invariant-loop-y
invariant-loop-y l = is_symbol_disjoint l.self.statements (decode l.self.names (take l.y-index l.codes)) (name_at l.self.names l.x) ≡ true
