use Rattle.mm_lex.proofs.Prelude.{◌≡◌, ◌+◌, ◌-◌, ◌≤◌, length, drop, spaced_prefix_len}
use Rattle.mm_lex.proofs.spaced_prefix.count_prefix_one_by_one.Given as goal

abbrev pub invariant-loop-at : goal.invariant-loop-at
invariant-loop-at l = (l.at ≤ length l.text) × (spaced_prefix_len l.text ≡ l.at + spaced_prefix_len (drop l.at l.text))

abbrev pub decreases-loop-at : goal.decreases-loop-at
decreases-loop-at l = length l.text - l.at
