use Rattle.std.specs.Prelude.{◌≡◌, ◌++◌, [], if◌then◌else◌, codes, OnOk}
use Rattle.std.proofs.Common.{subst, sym}
use Rattle.proof_pages.proofs.AppendLemmas.{joined-on, three-last}
use Rattle.proof_pages.specs.Pages.{table_html, view_of}
use Rattle.proof_pages.proofs.frame_part.push_floating.Goals as goal

pub returns : goal.returns
returns c =
    let page = c.args.page.now.items in
    let start = codes "<details>\n<summary>Floating hypotheses</summary>\n" in
    let table = table_html (view_of c.args.notation.now) c.args.positions.now in
    subst (λ b. OnOk c.extend_from_slice-2.result (c.extend_from_slice-2.new.self.items ≡ page ++ (if b then [] else start ++ table ++ codes "</details>\n"))) c.if-is_empty.ensures
    (three-last c.extend_from_slice-2.result page c.extend_from_slice.new.self.items c.push_table.new.page.items c.extend_from_slice-2.new.self.items start table (codes "</details>\n")
    c.in_ok-extend_from_slice.ensures.items c.in_ok-push_table.ensures c.extend_from_slice-2.ensures.items)
