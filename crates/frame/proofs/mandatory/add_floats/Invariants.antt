use Rattle.frame.proofs.Words.{◌-◌, drop, IsFloatAfter}
use Rattle.frame.proofs.CollectLemmas.{HasLeft}
use Rattle.frame.proofs.mandatory.add_floats.Given as goal

abbrev pub invariant-loop-code : goal.invariant-loop-code
invariant-loop-code l = HasLeft (IsFloatAfter l.storage (l.at - 1)) l.codes (drop l.code-index l.codes) l.fn.list.items l.list.items
