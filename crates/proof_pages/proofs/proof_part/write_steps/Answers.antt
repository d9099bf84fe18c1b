use Rattle.std.specs.Prelude.{codes}
use Rattle.std.proofs.Common.{arith}
use Rattle.steps.specs.Rows.{no_row}
use Rattle.proof_pages.proofs.WritingLemmas.{row_on, rows_end}
use Rattle.proof_pages.specs.Pages.{table_start}
use Rattle.proof_pages.specs.TableRows.{step_html}
use Rattle.proof_pages.proofs.proof_part.write_steps.Goals as goal

pub loop-index-preserved : goal.loop-index-preserved
loop-index-preserved g c =
    let n = c.args.notation.now in
    row_on (step_html n.is_linked n.statements.now n.frames.now.names n.css_classes.now.by_symbol.items c.args.id_prefix.now) c.args.table.now c.loop-index.index no_row c.extend_from_slice.new.self.items
    (g.W.Write.contents c.args.out.now) (g.W.Write.contents c.loop-index.out) (g.W.Write.contents c.write_if_full.new.out)
    c.loop-index.page.items c.write_if_full.new.text.items c.push_html_step.new.page.items
    (let t = c.loop-index-test.true in let e = c.loop-index.auto.index-end in let l = c.len-index-end.ensures in omega (arith, t, e, l))
    c.loop-index.invariant c.in_ok-push_html_step.ensures c.in_ok-write_if_full.ensures

pub returns : goal.returns
returns g c =
    let n = c.args.notation.now in
    rows_end (step_html n.is_linked n.statements.now n.frames.now.names n.css_classes.now.by_symbol.items c.args.id_prefix.now) c.args.table.now c.loop-index.index
    (g.W.Write.contents c.args.out.now) (g.W.Write.contents c.loop-index.out) c.args.page.now.items table_start c.extend_from_slice.new.self.items (codes "</tbody>\n</table>\n") c.loop-index.page.items _
    (let t = c.loop-index-test.false in let e = c.loop-index.auto.index-end in let l = c.len-index-end.ensures in omega (arith, t, e, l))
    c.in_ok-extend_from_slice.ensures.items c.loop-index.invariant c.in_ok-extend_from_slice-2.ensures.items
