use Rattle.frame.proofs.Words.{◌≤◌, arith, length, statements_of}
use Rattle.frame.proofs.AssertionViewLemmas.{all-legal}
use Rattle.frame.proofs.DeclaredSymbolLemmas.{stored-distinct}
use Rattle.frame.proofs.frames.Frames.active_pairs.Goals as goal

pub returns-clause-legal : goal.returns-clause-legal
returns-clause-legal c = rw (← c.self.view_is) (all-legal c.self.inside.storage c.self.invariant)

pub invariant_of-result : goal.invariant_of-result
invariant_of-result c = (c.self.invariant, stored-distinct c.self.inside.storage c.self.invariant, c.requires.0, let within : c.args.at ≤ length (statements_of c.self.inside.storage) = rw (← c.self.view_is) at c.requires.1 in omega (arith, within))
