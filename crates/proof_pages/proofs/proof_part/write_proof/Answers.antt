use Rattle.std.specs.Prelude.{◌++◌}
use Rattle.std.proofs.Common.{subst, sym}
use Rattle.proof_pages.proofs.WritingLemmas.{then_on}
use Rattle.proof_pages.specs.Pages.{proof_html, view_of}
use Rattle.proof_pages.specs.Writing.{IsWrittenThenBuffered}
use Rattle.proof_pages.proofs.proof_part.write_proof.Goals as goal

pub returns-in_ok-push_axioms-in-Some : goal.returns-in_ok-push_axioms-in-Some
returns-in_ok-push_axioms-in-Some g c =
    let values = c.args.values.now in
    let before = g.W.Write.contents c.args.out.now in
    let after = g.W.Write.contents c.write_tables.new.out in
    subst (λ proof. IsWrittenThenBuffered before after c.push_axioms.new.page.items (c.args.page.now.items ++ proof_html (view_of values.notation) values.shows_all_steps values.contents.now proof)) (sym c.in-Some.is)
    (then_on before after c.args.page.now.items _ c.write_tables.new.page.items _ c.push_axioms.new.page.items c.in_ok-write_tables-in-Some.ensures c.in_ok-push_axioms-in-Some.ensures)
