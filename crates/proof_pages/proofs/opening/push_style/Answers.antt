use Rattle.std.specs.Prelude.{◌≡◌, ◌++◌, [], if◌then◌else◌, codes, OnOk}
use Rattle.std.proofs.Common.{subst, sym}
use Rattle.proof_pages.proofs.AppendLemmas.{joined-on, three-last}
use Rattle.proof_pages.specs.Openings.{style_html}
use Rattle.proof_pages.specs.declared.style.TheConstants.{STYLE_SHEET}
use Rattle.proof_pages.proofs.opening.push_style.Goals as goal

pub returns : goal.returns
returns c =
    let page = c.args.page.now.items in
    subst (λ linked. OnOk c.extend_from_slice-4.result (c.extend_from_slice-4.new.self.items ≡ page ++ style_html linked)) (sym c.if-is_linked.false)
    (three-last c.extend_from_slice-4.result page c.extend_from_slice-2.new.self.items c.extend_from_slice-3.new.self.items c.extend_from_slice-4.new.self.items (codes "<style>\n") STYLE_SHEET.now (codes "</style>\n")
    c.in_ok-extend_from_slice.ensures.items c.in_ok-extend_from_slice-2.ensures.items c.extend_from_slice-4.ensures.items)
