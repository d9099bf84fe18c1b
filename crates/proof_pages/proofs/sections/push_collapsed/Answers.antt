use Rattle.std.specs.Prelude.{◌≡◌, ◌++◌, [], if◌then◌else◌, codes, OnOk}
use Rattle.std.proofs.Common.{subst, sym}
use Rattle.proof_pages.proofs.AppendLemmas.{joined-on, three-last}
use Rattle.proof_pages.specs.Sections.{collapsed_html}
use Rattle.proof_pages.specs.TableRows.{list_html}
use Rattle.proof_pages.proofs.sections.push_collapsed.Goals as goal

pub returns-in_ok-push_list-in-Some : goal.returns-in_ok-push_list-in-Some
returns-in_ok-push_list-in-Some c =
    let page = c.args.page.now.items in
    let n = c.args.notation.now in
    subst (λ ps. OnOk c.extend_from_slice-in-Some.result (c.extend_from_slice-in-Some.new.self.items ≡ page ++ collapsed_html n.is_linked n.statements.now c.args.summary.now ps)) (sym c.in-Some.ensures.cases.0)
    (three-last c.extend_from_slice-in-Some.result page c.extend_from_slice.new.self.items c.push_list.new.page.items c.extend_from_slice-in-Some.new.self.items c.args.summary.now
    (list_html n.is_linked n.statements.now c.in-Some.first.now c.in-Some.others.now) (codes "</details>\n")
    c.in_ok-extend_from_slice-in-Some.ensures.items c.in_ok-push_list-in-Some.ensures c.extend_from_slice-in-Some.ensures.items)
