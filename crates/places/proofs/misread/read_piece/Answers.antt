use Rattle.std.specs.Prelude.{Vec}
use Rattle.std.specs.declared.alloc.Global.{Global}
use Rattle.mm_read.specs.declared.stmt.Stmt.{Stmt}
use Rattle.places.proofs.Words.{◌∙◌}
use Rattle.places.proofs.MisreadLemmas.{piece-written, piece-fault}
use Rattle.places.proofs.misread.read_piece.Goals as goal

pub returns-clause-written : goal.returns-clause-written
returns-clause-written c =
    piece-written (λ (v : Vec Stmt Global). v.items) c.args.text.now c.as_slice.result.now c.args.piece.now c.requires (c.as_slice.ensures.value ∙ c.in_ok-bytes.ensures) c.read.result c.read.ensures.found

pub returns-clause-fault : goal.returns-clause-fault
returns-clause-fault c =
    piece-fault (λ (v : Vec Stmt Global). v.items) c.args.text.now c.as_slice.result.now c.args.piece.now c.requires (c.as_slice.ensures.value ∙ c.in_ok-bytes.ensures) c.read.result c.read.ensures.fault
