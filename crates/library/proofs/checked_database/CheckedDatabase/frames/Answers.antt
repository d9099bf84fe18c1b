use Rattle.library.proofs.Words.{sym, subst, HasLabelsOnce}
use Rattle.library.proofs.CitationWalkLemmas.{labels-once}
use Rattle.library.proofs.checked_database.CheckedDatabase.frames.Goals as goal

pub returns-clause-once : goal.returns-clause-once
returns-clause-once c = subst HasLabelsOnce (sym c.self.invariant.frames_are) (labels-once c.self.inside.statements.items c.self.invariant.good)
