use Rattle.sites.proofs.ReferenceWords.{take, lists_of, AreExtendedAt}
use Rattle.sites.proofs.references.append_citing_position_to_all.Given as goal

abbrev pub invariant-loop-position : goal.invariant-loop-position
invariant-loop-position l = AreExtendedAt l.at (take l.position-index l.cited) (lists_of l.initial.cited_by) (lists_of l.cited_by)
