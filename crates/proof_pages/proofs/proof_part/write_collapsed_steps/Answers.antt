use Rattle.std.specs.Prelude.{codes}
use Rattle.proof_pages.proofs.WritingLemmas.{between_on}
use Rattle.proof_pages.specs.Pages.{steps_html, view_of}
use Rattle.proof_pages.proofs.proof_part.write_collapsed_steps.Goals as goal

pub returns : goal.returns
returns g c =
    between_on (g.W.Write.contents c.args.out.now) (g.W.Write.contents c.write_steps.new.out) c.args.page.now.items (codes "<details>\n<summary>All steps</summary>\n") c.extend_from_slice.new.self.items
    (steps_html (view_of c.args.notation.now) (codes "s") c.args.table.now) (codes "</details>\n") c.write_steps.new.page.items _
    c.in_ok-extend_from_slice.ensures.items c.in_ok-write_steps.ensures c.in_ok-extend_from_slice-2.ensures.items
