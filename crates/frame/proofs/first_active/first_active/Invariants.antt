use Rattle.frame.proofs.Words.{◌≡◌, ◌≤◌, ℕ, length, take, active_with, mentions_of, positions_of}
use Rattle.entries.specs.Mentions.{before}
use Rattle.frame.specs.Stored.MentionLists.{IsTail}
use Rattle.frame.proofs.first_active.first_active.Given as goal

abbrev pub invariant-loop-table : goal.invariant-loop-table
invariant-loop-table l = record {
  front : (k : ℕ) × (k ≤ length (before l.at (mentions_of l.mentions l.code))) × (l.stack ≡ take k (before l.at (mentions_of l.mentions l.code)));
  tail : IsTail (active_with l.table l.entries l.code l.at) (positions_of l.stack);
}

abbrev pub decreases-loop-table : goal.decreases-loop-table
decreases-loop-table l = length l.stack
