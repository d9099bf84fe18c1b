use Rattle.mm_lex.proofs.Prelude.{[], ◌-◌, length, AreTokensBetween}
use Rattle.mm_lex.proofs.walk.next_token.Given as goal

abbrev pub invariant-loop-run : goal.invariant-loop-run
invariant-loop-run l = AreTokensBetween l.text l.at l.from []

abbrev pub decreases-loop-run : goal.decreases-loop-run
decreases-loop-run l = length l.text - l.from
