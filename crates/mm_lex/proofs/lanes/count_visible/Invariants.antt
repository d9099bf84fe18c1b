use Rattle.mm_lex.proofs.Prelude.{◌≡◌, ◌+◌, ◌-◌, ◌≤◌, length, drop, position_or_len, is_white}
use Rattle.mm_lex.proofs.lanes.count_visible.Given as goal

abbrev pub invariant-loop-at : goal.invariant-loop-at
invariant-loop-at l = (l.at ≤ length l.text) × (position_or_len is_white l.text ≡ l.at + position_or_len is_white (drop l.at l.text))

abbrev pub decreases-loop-at : goal.decreases-loop-at
decreases-loop-at l = length l.text - l.at
