use Rattle.subst.proofs.Words.{arith}
use Rattle.subst.proofs.ImageTableLemmas.{up_to-set}
use Rattle.subst.proofs.symbol_set.SymbolSet.remove.Goals as goal

pub invariant_of-self : goal.invariant_of-self
invariant_of-self c = (c.self.invariant.0, up_to-set c.self.inside.stamp c.self.inside.stamps.items c.args.symbol 0 c.self.invariant.1 (omega arith))
