use Rattle.std.proofs.Common.{sym}
use Rattle.mm_lex.proofs.BadByteLemmas.{position-clean}
use Rattle.mm_lex.proofs.scan.first_bad_byte.Goals as goal

pub returns-then-are_allowed : goal.returns-then-are_allowed
returns-then-are_allowed c = position-clean c.args.text.now (sym c.if-are_allowed.ensures)
