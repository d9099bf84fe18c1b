use Rattle.std.proofs.Common.{◌≡◌, ◌++◌, drop}
use Rattle.mm_lex.specs.Tokens.{words}
use Rattle.places.specs.Misread.{laid_out}
use Rattle.places.proofs.misread.lay_out.Given as goal

abbrev pub invariant-loop-span : goal.invariant-loop-span
invariant-loop-span l = l.bytes.items ++ laid_out (words l.text (drop l.span-index l.piece)) ≡ laid_out (words l.text l.piece)
