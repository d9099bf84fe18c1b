use Rattle.std.specs.Prelude.{codes}
use Rattle.proof_pages.proofs.WritingLemmas.{two_on}
use Rattle.proof_pages.specs.Pages.{all_steps_html, steps_html, view_of}
use Rattle.proof_pages.proofs.proof_part.write_tables.Goals as goal

pub returns : goal.returns
returns g c =
    let v = view_of c.args.notation.now in
    two_on c.write_all_steps.result (g.W.Write.contents c.args.out.now) (g.W.Write.contents c.write_steps.new.out) (g.W.Write.contents c.write_all_steps.new.out) c.args.page.now.items (codes "<h2>Proof</h2>\n")
    c.extend_from_slice.new.self.items (steps_html v (codes "e") c.args.proof.now.essential.now) c.write_steps.new.page.items (all_steps_html v c.args.shows_all_steps c.args.proof.now.steps.now) c.write_all_steps.new.page.items
    c.in_ok-extend_from_slice.ensures.items c.in_ok-write_steps.ensures c.write_all_steps.ensures
