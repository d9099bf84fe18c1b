use Rattle.mm_lex.proofs.Prelude.{◌≡◌, take, list_all, is_allowed}
use Rattle.mm_lex.proofs.scan.are_allowed.Given as goal

abbrev pub invariant-loop-b : goal.invariant-loop-b
invariant-loop-b l = l.all ≡ list_all is_allowed (take l.b-index l.text)
