use Rattle.entries.proofs.Words.{◌-◌, ◌+◌, length}
use Rattle.entries.specs.Mentions.{AreSame}
use Rattle.entries.proofs.mentions.append_until.Given as goal

abbrev pub invariant-loop-alloc : goal.invariant-loop-alloc
invariant-loop-alloc l = AreSame l.fn.lists.items l.lists.items

abbrev pub decreases-loop-alloc : goal.decreases-loop-alloc
decreases-loop-alloc l = l.number + 1 - length l.lists.items
