use Rattle.subst.proofs.Words.{◌+◌, arith}
use Rattle.subst.proofs.ImageTableLemmas.{none-later, up_to-later}
use Rattle.subst.proofs.symbol_set.SymbolSet.clear.Goals as goal

pub invariant_of-self : goal.invariant_of-self
invariant_of-self c = (omega arith, up_to-later c.self.inside.stamp _ c.self.inside.stamps.items c.self.invariant.1 (omega arith))

pub returns-then-self-lt18446744073709551615 : goal.returns-then-self-lt18446744073709551615
returns-then-self-lt18446744073709551615 c = λ x. none-later c.self.inside.stamp (c.self.inside.stamp + 1) c.self.inside.stamps.items x c.self.invariant.1 (omega arith)
