use Rattle.std.specs.Prelude.{◌≡◌, ◌++◌, [], if◌then◌else◌, codes, OnOk}
use Rattle.std.proofs.Common.{subst, sym}
use Rattle.proof_pages.proofs.AppendLemmas.{joined-on, three-last}
use Rattle.proof_pages.specs.Pages.{table_html, view_of}
use Rattle.proof_pages.proofs.frame_part.push_essential.Goals as goal

pub returns : goal.returns
returns c =
    let page = c.args.page.now.items in
    let table = table_html (view_of c.args.notation.now) c.args.positions.now in
    subst (λ b. OnOk c.push_table.result (c.push_table.new.page.items ≡ page ++ (if b then [] else codes "<h2>Hypotheses</h2>\n" ++ table))) c.if-is_empty.ensures
    (joined-on c.push_table.result page c.extend_from_slice.new.self.items c.push_table.new.page.items (codes "<h2>Hypotheses</h2>\n") table c.in_ok-extend_from_slice.ensures.items c.push_table.ensures)
