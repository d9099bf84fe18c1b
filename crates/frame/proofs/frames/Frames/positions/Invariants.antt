use Rattle.frame.proofs.Words.{map, ArePositions}
use Rattle.frame.proofs.frames.Frames.positions.Given as goal

abbrev pub invariant-loop-label : goal.invariant-loop-label
invariant-loop-label l = ArePositions l.self.statements (map (λ label. label.now) l.yielded) l.positions.items
