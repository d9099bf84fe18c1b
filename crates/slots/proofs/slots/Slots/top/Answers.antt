use Rattle.std.proofs.Common.{arith}
use Rattle.slots.proofs.FiniteMapLemmas.{top_of-trimmed-le}
use Rattle.slots.proofs.slots.Slots.top.Goals as goal

pub returns-clause-within : goal.returns-clause-within
returns-clause-within g c = omega (arith, c.self.invariant.within, c.self.invariant.top_is, top_of-trimmed-le c.self.inside.pages)
