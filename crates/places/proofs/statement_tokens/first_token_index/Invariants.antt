use Rattle.places.proofs.Words.{◌≡◌, ◌+◌, ◌-◌, drop, words, index_after_ends}
use Rattle.places.proofs.statement_tokens.first_token_index.Given as goal

abbrev pub invariant-loop-i : goal.invariant-loop-i
invariant-loop-i l = index_after_ends (l.statement - 1) (words l.text l.spans) ≡ l.i + index_after_ends l.left (words l.text (drop l.i l.spans))
