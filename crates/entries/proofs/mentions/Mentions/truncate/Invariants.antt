use Rattle.entries.proofs.Words.{◌≡◌, ℕ, length}
use Rattle.entries.specs.Mentions.{kept_until, mentions_of}
use Rattle.entries.specs.Stored.MentionLog.{AreLogged}
use Rattle.entries.proofs.mentions.Mentions.truncate.Given as goal

abbrev pub invariant-loop-number : goal.invariant-loop-number
invariant-loop-number l = record {
  logged : AreLogged l.self-inside.log.items l.self-inside.lists.items;
  kept : (d : ℕ) → kept_until l.last (mentions_of l.self-inside.lists.items d) ≡ kept_until l.last (mentions_of l.fn.self d);
}

abbrev pub decreases-loop-number : goal.decreases-loop-number
decreases-loop-number l = length l.self-inside.log.items
