use Rattle.sites.proofs.ReferenceWords.{take, In, HasMore}
use Rattle.sites.proofs.collector.Collector.add_all.Given as goal

abbrev pub invariant-loop-position : goal.invariant-loop-position
invariant-loop-position l = HasMore (λ p. In p (take l.position-index l.positions)) l.initial.self l.self
