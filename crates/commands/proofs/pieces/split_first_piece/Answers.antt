use Rattle.std.proofs.Common.{sym}
use Rattle.commands.proofs.PiecesLemmas.{split_found, split_whole}
use Rattle.commands.proofs.pieces.split_first_piece.Goals as goal

pub returns-in-Some : goal.returns-in-Some
returns-in-Some c = split_found c.args.separator c.args.bytes.now c.in-Some.end (sym c.in-Some.ensures)

pub returns-in-None : goal.returns-in-None
returns-in-None c = split_whole c.args.separator c.args.bytes.now (sym c.in-None.ensures)
