use Rattle.entries.proofs.Words.{length}
use Rattle.entries.specs.Mentions.{AreSame}
use Rattle.entries.proofs.mentions.remove_empty.Given as goal

abbrev pub invariant-loop-lists : goal.invariant-loop-lists
invariant-loop-lists l = AreSame l.fn.lists.items l.lists.items

abbrev pub decreases-loop-lists : goal.decreases-loop-lists
decreases-loop-lists l = length l.lists.items
