use Rattle.places.proofs.Words.{ℕ, ◌≡◌, ◌≤◌, ◌<◌, slice_index, line_feed}
use Rattle.places.proofs.lines_and_columns.line_start.Given as goal

abbrev pub invariant-loop-i : goal.invariant-loop-i
invariant-loop-i l = (k : ℕ) → l.i ≤ k → k < l.offset → slice_index l.text k ≡ line_feed → ⊥
