use Rattle.std.proofs.Common.{◌≡◌, ◌+◌, drop}
use Rattle.mm_lex.specs.Tokens.{words}
use Rattle.places.specs.Misread.{count_to_stop}
use Rattle.places.proofs.misread.count_to_stop.Given as goal

abbrev pub invariant-loop-i : goal.invariant-loop-i
invariant-loop-i l = count_to_stop (words l.text l.spans) ≡ l.i + count_to_stop (words l.text (drop l.i l.spans))
