use Rattle.frame.proofs.Words.{◌≡◌, ◌+◌, ℕ, true, false, nat_eq, length, take, list_any, mentions_of, AreGrown, IsMentionedAt, KeepsUntil}
use Rattle.frame.proofs.next_mentions.mention_each.Given as goal

abbrev pub invariant-loop-code : goal.invariant-loop-code
invariant-loop-code l = record {
  grown : AreGrown l.table l.entries l.from l.mentions;
  kept : KeepsUntil (length l.entries) l.fn.mentions l.mentions;
  others : (c : ℕ) → list_any (λ x. nat_eq c x) l.codes ≡ false → mentions_of l.mentions c ≡ mentions_of l.fn.mentions c;
  mentioned : l.from ≡ length l.entries + 1 → (c : ℕ) → list_any (λ x. nat_eq c x) (take l.code-index l.codes) ≡ true → IsMentionedAt l.from (mentions_of l.mentions c);
}
