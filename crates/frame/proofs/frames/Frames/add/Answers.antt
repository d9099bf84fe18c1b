use Rattle.frame.proofs.NamingLemmas.{stored-naming}
use Rattle.frame.proofs.frames.Frames.add.Goals as goal

pub broken_rule-broken-requires-clause-numbering : goal.broken_rule-broken-requires-clause-numbering
broken_rule-broken-requires-clause-numbering c = rw (c.requires.same, ← c.self.view_is) (stored-naming c.self.inside.storage c.self.invariant)
