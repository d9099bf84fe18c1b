use Rattle.std.proofs.Common.{arith}
use Rattle.proof_pages.proofs.ColourLemmas.{expr_is, some_at}
use Rattle.proof_pages.proofs.partition.expr_at.Goals as goal

pub returns : goal.returns
returns c =
    let frames = c.args.frames.now in
    let there = some_at frames.statements c.args.position (omega (arith, c.if-position-eq0.false)) (omega (arith, c.if-position-len.false, c.len.ensures)) in
    expr_is frames.statements frames.names c.args.position c.expr.result.now there.0 there.1 c.active_pairs-pairs.ensures.legal.distinct c.expr.ensures.codes (c.expr.ensures.same there.0 there.1)
