use Rattle.mm_lex.proofs.Prelude.{◌≡◌, ◌-◌, ◌≤◌, length, List, Name, AreTokensBetween}
use Rattle.mm_lex.proofs.walk.count_tokens.Given as goal

abbrev pub invariant-loop-span : goal.invariant-loop-span
invariant-loop-span l = (ws : List Name) × AreTokensBetween l.text l.at l.from ws × (length ws ≡ l.count) × (l.count ≤ l.from)

abbrev pub decreases-loop-span : goal.decreases-loop-span
decreases-loop-span l = length l.text - l.from
