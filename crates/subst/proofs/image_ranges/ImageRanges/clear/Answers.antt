use Rattle.std.proofs.Common.{arith}
use Rattle.subst.proofs.ImageTableLemmas.{placed-later, up_to-later}
use Rattle.subst.proofs.image_ranges.ImageRanges.clear.Goals as goal

pub invariant_of-self : goal.invariant_of-self
invariant_of-self c = (omega arith, up_to-later c.self.inside.round _ c.self.inside.rounds.items c.self.invariant.1 (omega arith), c.self.invariant.2)

pub returns-then-self-lt4294967295 : goal.returns-then-self-lt4294967295
returns-then-self-lt4294967295 c = placed-later c.self.inside.round _ 0 c.self.inside.rounds.items c.self.inside.ranges.items c.self.invariant.1 (omega arith)
