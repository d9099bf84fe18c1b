use Rattle.mm_lex.proofs.Prelude.{◌-◌, length, PassesPlain}
use Rattle.mm_lex.proofs.comment.comment_end.Given as goal

abbrev pub invariant-loop-span : goal.invariant-loop-span
invariant-loop-span l = PassesPlain l.text l.from l.at

abbrev pub decreases-loop-span : goal.decreases-loop-span
decreases-loop-span l = length l.text - l.at
