use Rattle.proof_pages.proofs.Words.{[], arith, no_row, step_line}
use Rattle.proof_pages.proofs.WritingLemmas.{row_on}
use Rattle.proof_pages.proofs.writing.write_step_lines.Goals as goal

pub loop-index-preserved : goal.loop-index-preserved
loop-index-preserved g c =
    row_on (step_line c.args.frames.now.statements c.args.frames.now.names) c.args.table.now c.loop-index.index no_row []
    (g.W.Write.contents c.args.out.now) (g.W.Write.contents c.loop-index.out) (g.W.Write.contents c.write_if_full.new.out)
    c.loop-index.text.items c.write_if_full.new.text.items c.push_step.new.text.items
    (let t = c.loop-index-test.true in let e = c.loop-index.auto.index-end in let n = c.len-index-end.ensures in omega (arith, t, e, n))
    c.loop-index.invariant c.in_ok-push_step.ensures c.in_ok-write_if_full.ensures
