use Rattle.proof_pages.proofs.Words.{codes, arith, ◌∙◌, no_row, node_text, graph_header}
use Rattle.proof_pages.proofs.WritingLemmas.{row_on, end_on}
use Rattle.proof_pages.proofs.writing.write_dot.Goals as goal

pub loop-index-preserved : goal.loop-index-preserved
loop-index-preserved g c =
    row_on (node_text c.args.frames.now.statements c.args.frames.now.names) c.args.table.now c.loop-index.index no_row (graph_header c.args.label.now)
    (g.W.Write.contents c.args.out.now) (g.W.Write.contents c.loop-index.out) (g.W.Write.contents c.write_if_full.new.out)
    c.loop-index.text.items c.write_if_full.new.text.items c.push_node.new.text.items
    (let t = c.loop-index-test.true in let e = c.loop-index.auto.index-end in let n = c.len-index-end.ensures in omega (arith, t, e, n))
    c.loop-index.invariant c.in_ok-push_node.ensures c.in_ok-write_if_full.ensures

pub returns : goal.returns
returns g c =
    end_on c.write_buffered.result (node_text c.args.frames.now.statements c.args.frames.now.names) c.args.table.now c.loop-index.index (graph_header c.args.label.now) (codes "}\n")
    (g.W.Write.contents c.args.out.now) (g.W.Write.contents c.loop-index.out) (g.W.Write.contents c.write_buffered.new.out)
    c.loop-index.text.items c.deref.result.now
    (let t = c.loop-index-test.false in let e = c.loop-index.auto.index-end in let n = c.len-index-end.ensures in omega (arith, t, e, n))
    c.loop-index.invariant (c.deref.ensures.value ∙ c.in_ok-extend_from_slice.ensures.items) c.write_buffered.ensures
