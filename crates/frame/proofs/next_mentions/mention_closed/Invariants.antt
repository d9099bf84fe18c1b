use Rattle.frame.proofs.Words.{◌≤◌, length, AreGrown, KeepsUntil}
use Rattle.frame.proofs.next_mentions.mention_closed.Given as goal

abbrev pub invariant-loop-last : goal.invariant-loop-last
invariant-loop-last l = record {
  within : l.last ≤ length l.entries;
  grown : AreGrown l.table l.entries l.from l.mentions;
  kept : KeepsUntil (length l.entries) l.fn.mentions l.mentions;
}

abbrev pub decreases-loop-last : goal.decreases-loop-last
decreases-loop-last l = l.last
