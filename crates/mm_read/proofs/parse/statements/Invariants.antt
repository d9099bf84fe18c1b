use Rattle.mm_read.proofs.Words.{◌-◌, length, ReadsUpTo}
use Rattle.mm_read.proofs.parse.statements.Given as goal

abbrev pub invariant-loop-next : goal.invariant-loop-next
invariant-loop-next l = ReadsUpTo l.text l.at l.statements.items

abbrev pub decreases-loop-next : goal.decreases-loop-next
decreases-loop-next l = length l.text - l.at
